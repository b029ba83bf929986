-- `write_sheet` meets its contract: the price that it hands on is the list's. Assumes nothing.
use Rattle.score.proofs.write_sheet.Goals as goal

pub write_priced-requires : goal.write_priced-requires
write_priced-requires c =
    let price-sheet = c.price_sheet-price in
    let s = c.requires.0 in
    let h = c.requires.1 in
    (s, record { held = h; own = price-sheet.ensures s h })

pub returns : goal.returns
returns c =
    let write-priced = c.write_priced in
    let price-sheet = c.price_sheet-price in
    λ s h. write-priced.ensures s (record { held = h; own = price-sheet.ensures s h })
