-- `reached` meets its contract: each total that is tested and not below the cap is of a carry state that is not reached. Assumes nothing.
use Rattle.rows.specs.IdleLaws.{reached_all, reached_less}
use Rattle.rows.proofs.carry.reached.Goals as goal

pub returns-then-v-lt-NONE : goal.returns-then-v-lt-NONE
returns-then-v-lt-NONE c = reached_all _

pub returns-then-v-lt-NONE-2 : goal.returns-then-v-lt-NONE-2
returns-then-v-lt-NONE-2 c =
    reached_less _ 3 (reached_all _) c.if-v-lt-NONE.false

pub returns-then-v-lt-NONE-3 : goal.returns-then-v-lt-NONE-3
returns-then-v-lt-NONE-3 c =
    reached_less _ 2 (reached_less _ 3 (reached_all _) c.if-v-lt-NONE.false) c.if-v-lt-NONE-2.false

pub returns : goal.returns
returns c =
    let two = reached_less _ 2 (reached_less _ 3 (reached_all _) c.if-v-lt-NONE.false) c.if-v-lt-NONE-2.false in
    reached_less _ 1 two c.if-v-lt-NONE-3.false
