-- `place_of` meets its contract: a bar has at most 32 onsets, and there are at most 84 lengths and 16 nonterminals, so that no product
-- passes its type; the slot and the shift are both below the number of slots, so that their sum is turned once at most. Assumes nothing.
use mathlib.Core.Path.{refl}
use borrow.Author.Rules.{rules}
use Rattle.rows.specs.NameLaws.{slot_fits, slot_low, slot_high}
use Rattle.rows.proofs.slots.place_of.Goals as goal

pub overflow_mul-x : goal.overflow_mul-x
overflow_mul-x c =
    let f = slot_fits c.requires.1 c.length_count.ensures refl in
    search rules

pub overflow_add-x : goal.overflow_add-x
overflow_add-x c =
    let f = slot_fits c.requires.1 c.length_count.ensures refl in
    search rules

pub overflow_mul-x-2 : goal.overflow_mul-x-2
overflow_mul-x-2 c =
    let f = slot_fits c.requires.1 c.length_count.ensures c.nonterminals.ensures in
    search rules

pub overflow_add-x-2 : goal.overflow_add-x-2
overflow_add-x-2 c =
    let f = slot_fits c.requires.1 c.length_count.ensures c.nonterminals.ensures in
    search rules

pub overflow_mul-x-3 : goal.overflow_mul-x-3
overflow_mul-x-3 c =
    let f = slot_fits c.requires.1 c.length_count.ensures c.nonterminals.ensures in
    search rules

pub overflow_add-x-3 : goal.overflow_add-x-3
overflow_add-x-3 c =
    let f = slot_fits c.requires.1 c.length_count.ensures c.nonterminals.ensures in
    let few = c.requires.1.few in
    search rules

pub overflow_add-x-4 : goal.overflow_add-x-4
overflow_add-x-4 c =
    let length-count = c.length_count in
    let f = slot_fits c.requires.1 length-count.ensures c.nonterminals.ensures in
    let few = c.requires.1.few in
    search rules

pub overflow_mul-result : goal.overflow_mul-result
overflow_mul-result c =
    let length-count = c.length_count in
    let nonterminals = c.nonterminals in
    let f = slot_fits c.requires.1 length-count.ensures nonterminals.ensures in
    let few = c.requires.1.few in
    search rules

pub returns-then-x-bar : goal.returns-then-x-bar
returns-then-x-bar c =
    let length-count = c.length_count in
    let nonterminals = c.nonterminals in
    let if1 = c.if-x-bar in
    λ s h. slot_low h length-count.ensures nonterminals.ensures if1.true

pub overflow_mul-result-2 : goal.overflow_mul-result-2
overflow_mul-result-2 c =
    let length-count = c.length_count in
    let nonterminals = c.nonterminals in
    let f = slot_fits c.requires.1 length-count.ensures nonterminals.ensures in
    let few = c.requires.1.few in
    search rules

pub returns : goal.returns
returns c =
    let length-count = c.length_count in
    let nonterminals = c.nonterminals in
    let if1 = c.if-x-bar in
    λ s h. slot_high h length-count.ensures nonterminals.ensures if1.false
