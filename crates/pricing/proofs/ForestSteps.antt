-- The steps of `read_forest`: what is read so far of intervals in a row. `InRow` is the loop's invariant: it begins with none (`row_none`),
-- goes on by an interval (`row_more`) or stops where one has no tree (`row_stuck`), and ends with all (`row_all`).
use Prim.Native.Nat.{ℕ, suc, ◌+◌, ◌*◌, ◌≤◌, ◌<◌}
use mathlib.Core.Path.{◌≡◌, refl, sym, ap, subst, ◌∙◌}
use mathlib.Core.List.{List, [], ◌∷◌, ◌++◌}
use native.Mathlib.Nat.{mul-le-mul_right, suc-mul}
use native.Mathlib.Numerals.{add-one}
use native.Mathlib.Omega.{arith}
use lib.ListN.{length, take, drop, get_or}
use lib.Seq.{take-suc, take_all, length-take-le, split_at}
use Rattle.sheet.specs.Sheet.{Sheet}
use Rattle.derivations.specs.Derivation.{Item, ◌⊞◌, unspent}
use Rattle.derivations.specs.Reads.{reads_nil, reads_append, stuck_front, stuck_back}
use Rattle.trees.specs.ValidTrees.{adjoining}
use Rattle.trees.specs.Instance.{instance_of}
use Rattle.trees.proofs.Laws.{adjoining-append}
use Rattle.expansions.specs.Items.{interval, first_at, item_of}
use Rattle.pricing.specs.declared.Progress.{Progress}
use Rattle.std.proofs.Common.{Option, Some, None}
use Rattle.pricing.specs.Clauses.{Sized, Passed, NotPassed, ItemPre, ItemWalked, ForestPre, ForestWalked}

-- ---- reading on

module _ {s : Sheet} {list : List ℕ} where
  passed_none : (p : Progress) → Sized list p → Passed s list [] p p
  passed_none p z =
      record {
        price = unspent p.carried;
        reads = reads_nil (instance_of s) p.carried (drop p.at list);
        carried = refl;
        weight = omega arith;
        distance = omega arith;
        sized = z;
      }

  passed_append : (g₁ g₂ : List Item) (p q r : Progress) → Passed s list g₁ p q → Passed s list g₂ q r → Passed s list (g₁ ++ g₂) p r
  passed_append g₁ g₂ p q r h k =
      record {
        price = h.price ⊞ k.price;
        reads =
            reads_append (instance_of s) g₁ g₂ p.carried (drop p.at list) (drop q.at list) (drop r.at list) h.price k.price
            h.reads (rw h.carried at k.reads);
        carried = k.carried;
        weight = omega (arith, h.weight, k.weight);
        distance = omega (arith, h.distance, k.distance);
        sized = k.sized;
      }

  -- the second of two stretches has no reading
  not_passed_append : (g₁ g₂ : List Item) (p q : Progress) → Passed s list g₁ p q → NotPassed s list g₂ q → NotPassed s list (g₁ ++ g₂) p
  not_passed_append g₁ g₂ p q h k =
      stuck_back (instance_of s) g₁ g₂ p.carried (drop p.at list) (drop q.at list) h.price h.reads (rw h.carried at k)

-- ---- intervals in a row

-- the first j intervals are read, from a on up to p
pub record InRow (s : Sheet) (list : List ℕ) (l n : ℕ) (ks : List ℕ) (j : ℕ) (a p : Progress) : Type 0 where
  pub passed : Passed s list (adjoining l n (take j ks)) a p
  pub from : p.from ≡ first_at s (l + j * n)

module _ {s : Sheet} {cells children units list ks : List ℕ} {l n : ℕ} {a : Progress}
    (h : ForestPre s cells children units list ks (interval l n) a) where
  pub row_none : InRow s list l n ks 0 a a
  row_none = record { passed = passed_none a h.sized; from = h.from ∙ ap (first_at s) (omega arith) }

  pub row_all : (j : ℕ) (p : Progress) → InRow s list l n ks j a p → length ks ≤ j → j ≤ length ks
      → ForestWalked s list ks (interval l n) a (Some p)
  row_all j p i f g =
      let e : j ≡ length ks = omega arith in
      (subst (λ xs. Passed s list (adjoining l n xs) a p) (take_all j ks f) i.passed, i.from ∙ ap (λ x. first_at s (l + x * n)) e)

  module _ (j left : ℕ) (p : Progress) (i : InRow s list l n ks j a p) (k : j < length ks) (e : left ≡ l + j * n) where
    -- the next interval is within the piece
    pub next_within : left + n ≤ 1290240
    next_within = omega (arith, h.within, mul-le-mul_right n k, suc-mul j n)

    pub row_item : ItemPre s cells children units list (interval left n) p
    row_item =
        record {
          lent = h.lent;
          within = next_within;
          in_bar_lem = h.in_bar_lem;
          first = i.from ∙ ap (first_at s) (sym e);
          sized = i.passed.sized;
        }

    -- the row is what is read, the next interval and the rest
    in_three : adjoining l n ks
        ≡ adjoining l n (take j ks) ++ (item_of (get_or ks j 0) (interval left n) ∷ adjoining (left + n) n (drop (suc j) ks))
    in_three =
        ap (adjoining l n) (split_at ks j 0 k) ∙ adjoining-append l n (take j ks) (get_or ks j 0 ∷ drop (suc j) ks)
        ∙ ap (λ x. adjoining l n (take j ks) ++ adjoining x n (get_or ks j 0 ∷ drop (suc j) ks))
        (omega (arith, e, ap (λ x. x * n) (length-take-le j ks (omega arith))))

    more_by : (q : Progress) → ItemWalked s list (get_or ks j 0) (interval left n) p (Some q) → InRow s list l n ks (j + 1) a q
    more_by q w =
        record {
          passed = subst (λ gs. Passed s list gs a q) (sym one_more) (passed_append _ _ a p q i.passed w.0);
          from = w.1 ∙ ap (first_at s) (omega arith);
        }
      where
        one_more : adjoining l n (take (j + 1) ks) ≡ adjoining l n (take j ks) ++ (item_of (get_or ks j 0) (interval left n) ∷ [])
        one_more =
            ap (λ m. adjoining l n (take m ks)) (add-one j) ∙ ap (adjoining l n) (take-suc ks j 0 k) ∙ adjoining-append l n (take j ks)
            (get_or ks j 0 ∷ [])
            ∙ ap (λ x. adjoining l n (take j ks) ++ adjoining x n (get_or ks j 0 ∷ []))
            (omega (arith, e, ap (λ x. x * n) (length-take-le j ks (omega arith))))

    stuck_by : ItemWalked s list (get_or ks j 0) (interval left n) p None → ForestWalked s list ks (interval l n) a None
    stuck_by w =
        subst (λ gs. NotPassed s list gs a) (sym in_three)
        (not_passed_append _ _ a p i.passed
        (stuck_front (instance_of s) (item_of (get_or ks j 0) (interval left n) ∷ []) (adjoining (left + n) n (drop (suc j) ks)) p.carried
        (drop p.at list) w))

    -- what the call for the next interval tells, by its result x
    abbrev Told : Option Progress → Type 0
    Told x = ItemPre s cells children units list (interval left n) p → ItemWalked s list (get_or ks j 0) (interval left n) p x

    pub row_more : (x : Option Progress) (q : Progress) → Told x → x ≡ Some q → InRow s list l n ks (j + 1) a q
    row_more x q f e = more_by q (subst (ItemWalked s list (get_or ks j 0) (interval left n) p) e (f row_item))

    pub row_stuck : (x : Option Progress) → Told x → x ≡ None → ForestWalked s list ks (interval l n) a None
    row_stuck x f e = stuck_by (subst (ItemWalked s list (get_or ks j 0) (interval left n) p) e (f row_item))
