-- What is told of a number that stands for nothing.
use Rattle.std.specs.Prelude.{ℕ, List, ◌++◌, codes}
use Rattle.std.specs.Fmt.{signed_decimal}
use Rattle.scode.specs.declared.unknown.UnknownNumber.{UnknownNumber}

abbrev pub unknown_number_text : UnknownNumber → List ℕ
unknown_number_text e = codes "the number " ++ signed_decimal e.0 ++ codes " stands for nothing"
