-- Where the scanner stands behind a byte.
use Rattle.std.proofs.Common.{◌≡◌, refl}
use Rattle.scanner.specs.Pieces.{Mode, between, in_word, in_comment}
use Rattle.scanner.specs.declared.class.Class.{Class}
use Rattle.scanner.specs.declared.class.Class.TheVariants.{LineFeed, Semicolon, Letter}

-- the mode behind a byte of this class: outside a comment, in one, and anywhere
abbrev pub leads : Class → Mode
leads Semicolon = in_comment
leads Letter = in_word
leads _ = between

abbrev pub stays : Class → Mode
stays LineFeed = between
stays _ = in_comment

abbrev pub next : Mode → Class → Mode
next in_comment k = stays k
next _ k = leads k

pub leads_in_comment : (k : Class) → leads k ≡ in_comment → k ≡ Semicolon
leads_in_comment Semicolon e = refl
leads_in_comment _ e = cc
