-- What proofs of other crates cite of texts and of digits.
pub use Rattle.pad_text.proofs.Texts.{IsText-nil, IsText-append, IsText-take, IsText-drop, IsText-between, IsText-chars, IsText-units_of, IsSpelled, spelled, utf8-units_of, units_of-utf8, IsUtf8-utf8, CutsPair-drop, drop-cuts_none, seam-cuts_none, kept_by_cuts}
pub use Rattle.pad_text.proofs.Joins.{utf8-append, utf8-nil, end-cuts_none}
pub use Rattle.pad_text.proofs.HexDigits.{digits-refused, digits-again, digits-same, digit_at, char_low, char_high, IsDigits-bytes, IsBytes-digits, IsUtf8-digits}
