-- The leaves of one nonterminal more. Assumes nothing.
use Rattle.std.specs.Prelude.{◌≡◌, ℕ, ◌+◌, ◌*◌, ◌<◌, List, length}
use Rattle.std.proofs.Common.{sym, subst, ◌∙◌, arith}
use Rattle.std.proofs.Math.Decide.{ℕ_discrete}
use Rattle.rows.specs.declared.one.Pair.{Pair}
use Rattle.rows.specs.One.{LeafOne}
use Rattle.filling.specs.Pairs.{pair_at, put_pair, pair_same, put_size, put_other, put_zeroth, put_first}
use Rattle.filling.specs.Filling.{LeavesTo}

pub leaves_none : {plan best : List ℕ} {len d : ℕ} → length best ≡ 32 → LeavesTo plan best len d 0
leaves_none size = record { size = size; leaf = λ q h. absurd (omega arith) }

module _ {plan best : List ℕ} {len d q : ℕ} (p : LeavesTo plan best len d q) (few : q < 16) where
  pub leaves_room : 2 * q + 1 < length best
  leaves_room = omega (arith, p.size)

  pub leaves_more : {y : Pair} {after : List ℕ} → LeafOne plan q len d y → after ≡ put_pair best (2 * q) y
      → LeavesTo plan after len d (q + 1)
  leaves_more {y} {after} told is =
      subst (λ (cells : List ℕ). LeavesTo plan cells len d (q + 1)) (sym is) (record {
        size = put_size best (2 * q) y ∙ p.size;
        leaf = each;
      })
    where
      own : pair_at (put_pair best (2 * q) y) (2 * q) ≡ y
      own = pair_same (put_zeroth best (2 * q) y leaves_room) (put_first best (2 * q) y leaves_room)

      each : (a : ℕ) → a < q + 1 → LeafOne plan a len d (pair_at (put_pair best (2 * q) y) (2 * a))
      each a h = elim (ℕ_discrete a q) [
        | yes e ↦ rw e (subst (LeafOne plan q len d) (sym own) told)
        | no n ↦
            let same : pair_at (put_pair best (2 * q) y) (2 * a) ≡ pair_at best (2 * a) =
            pair_same (put_other best (2 * q) y (2 * a) (λ e. n (omega arith)) (λ e. omega arith))
            (put_other best (2 * q) y (2 * a + 1) (λ e. omega arith) (λ e. n (omega arith))) in
            subst (LeafOne plan a len d) (sym same) (p.leaf a (omega arith))
      ]
