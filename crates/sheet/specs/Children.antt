-- The table of the parts of divisions: eight places a rule, and what they hold.
use Rattle.std.specs.Prelude.{ℕ, zero, suc, ◌+◌, ◌-◌, ◌*◌, ◌≤◌, ◌≡◌, refl, true, false, List, [], ◌∷◌, ◌++◌, map, length, take, drop, replicate}
use Rattle.std.proofs.Common.{ap, ◌∙◌, append_assoc, arith, length-append}
use Rattle.std.proofs.lemmas.Bool.{false≢true}
use Rattle.std.proofs.Math.Option.{some, none-ne-some}
use Rattle.std.proofs.Math.ListN.{get_elem?}
use Rattle.std.proofs.lemmas.List.{length-map}
use Rattle.std.proofs.Math.Seq.{take-append_seam, drop-append-add}
use Rattle.slices.specs.Pad.{pad, length-pad, pad-append}
use Rattle.sheet.specs.Sheet.{Rule, division, leaf}
use Rattle.sheet.specs.Held.{parts_of, flat, child_cells}

pub length-flat : (rs : List (List ℕ)) → length (flat rs) ≡ 8 * length rs
unfolding flat
length-flat [] = refl
length-flat (ks ∷ rs) = length-append (pad 8 0 ks) (flat rs) ∙ omega (arith, length-pad 8 0 ks, length-flat rs)

abbrev Fronts : List ℕ → List ℕ → Type 0
Fronts ks cells = take (length ks) cells ≡ ks

-- the first eight places hold the first rule's parts
first_parts : (ks cells : List ℕ) → length ks ≤ 8 → Fronts ks (pad 8 0 ks ++ cells)
first_parts ks cells h =
    ap (take (length ks)) (ap (◌++ cells) (pad-append 8 0 ks h) ∙ append_assoc ks (replicate (8 - length ks) 0) cells)
    ∙ take-append_seam ks (replicate (8 - length ks) 0 ++ cells)

-- eight places further on are the next rule's
next_parts : (ks xs cells : List ℕ) (i : ℕ) → drop (8 * suc i) ((pad 8 0 ks ++ xs) ++ cells) ≡ drop (8 * i) (xs ++ cells)
next_parts ks xs cells i =
    let e : 8 * suc i ≡ length (pad 8 0 ks) + 8 * i = omega (arith, length-pad 8 0 ks) in
    ap (drop (8 * suc i)) (append_assoc (pad 8 0 ks) xs cells)
    ∙ ap (λ n. drop n (pad 8 0 ks ++ (xs ++ cells))) e
    ∙ drop-append-add (pad 8 0 ks) (xs ++ cells) (8 * i)

parts_at : (rs : List Rule) (i h w : ℕ) (ks cells : List ℕ) → get_elem? rs i ≡ some (division h w ks) → length ks ≤ 8
    → Fronts ks (drop (8 * i) (flat (map parts_of rs) ++ cells))
unfolding flat
parts_at [] i h w ks cells e f = absurd (none-ne-some _ e)
parts_at (division a b js ∷ rs) zero h w ks cells e f =
    let q : js ≡ ks = cc in
    rw (append_assoc (pad 8 0 js) (flat (map parts_of rs)) cells, q) (first_parts ks (flat (map parts_of rs) ++ cells) f)
parts_at (leaf a b n ∷ rs) zero h w ks cells e f = let g : false ≡ true = cc in absurd (false≢true g)
parts_at (r ∷ rs) (suc i) h w ks cells e f =
    ap (take (length ks)) (next_parts (parts_of r) (flat (map parts_of rs)) cells i) ∙ parts_at rs i h w ks cells e f

-- the parts of division i, from place 8 × i on
pub parts_of_lem : (rs : List Rule) (i h w : ℕ) (ks : List ℕ) → get_elem? rs i ≡ some (division h w ks) → length ks ≤ 8 → length rs ≤ 64
    → take (length ks) (drop (8 * i) (child_cells (map parts_of rs))) ≡ ks
unfolding child_cells
parts_of_lem rs i h w ks e f g =
    let all = map parts_of rs in
    let room : length (flat all) ≤ 512 = omega (arith, length-flat all, length-map rs parts_of) in
    ap (λ xs. take (length ks) (drop (8 * i) xs)) (pad-append 512 0 (flat all) room) ∙ parts_at rs i h w ks _ e f
