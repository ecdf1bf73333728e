-- The words of this crate, fixed by plain numbers: a promise said in them cannot move with them. Rows of two
-- sheets by year, and rows handed out from bytes.
use Rattle.std.specs.Prelude.{◌≡◌, []}
use Rattle.sheet.specs.Fixed.{sheet_of5775}
use Rattle.accepted.specs.Fixed.{one, guest}
use Rattle.loaded.specs.Rows.{rows_answer, named_answer}
use Rattle.loaded.specs.Walk.{row_given, row_after, begun_at}

pub record WordsFixed : Type 0 where
  pub rows : (rows_answer 1 one 5775 ≡ record { refusal = 0; offset = 24; length = 318 }) × (rows_answer 2 guest 5776 ≡ record { refusal = 0; offset = 346; length = 354 })
  pub off_sheet_is :
      (rows_answer 1 one 5774 ≡ record { refusal = 1; offset = 0; length = 0 })
      × (rows_answer 1 one 5776 ≡ record { refusal = 1; offset = 0; length = 0 })
      × (rows_answer 2 guest 5778 ≡ record { refusal = 1; offset = 0; length = 0 })
  pub named :
      (named_answer 1 one guest 5775 ≡ record { refusal = 0; offset = 24; length = 318 })
      × (named_answer 2 one guest 5776 ≡ record { refusal = 0; offset = 346; length = 354 })
      × (named_answer 0 one guest 5775 ≡ record { refusal = 15; offset = 0; length = 0 })
      × (named_answer 3 one guest 5775 ≡ record { refusal = 15; offset = 0; length = 0 })
  -- A walk begins at row 0, or has ended; of the first two rows the bytes are there, of the third they are not.
  pub walk :
      (begun_at 1 one ≡ record { refusal = 0; row = 0 }) × (begun_at 2 guest ≡ record { refusal = 0; row = 0 })
      × (begun_at 1 [] ≡ record { refusal = 16; row = 18446744073709551615 })
      × (row_given sheet_of5775 0 ≡ record { more = 1; first = 2456926; length = 3; wing = 1 }) × (row_after sheet_of5775 0 ≡ 1)
      × (row_given sheet_of5775 1 ≡ record { more = 1; first = 2456935; length = 1; wing = 1 }) × (row_after sheet_of5775 1 ≡ 2)
      × (row_given sheet_of5775 2 ≡ record { more = 0; first = 0; length = 0; wing = 0 }) × (row_after sheet_of5775 2 ≡ 2)
