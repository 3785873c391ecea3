-- Where a token stands, as `cut` counts it.
use Rattle.std.proofs.Common.{ℕ, ◌<◌, Bool, true, false}
use Rattle.source.specs.declared.texts.Standing.{Standing}
use Rattle.source.specs.declared.texts.Standing.TheVariants.{First, Stray, Inside}

abbrev pub deep : Standing → ℕ
deep First = 0
deep Stray = 0
deep (Inside d) = d

abbrev pub stray : Standing → Bool
stray First = false
stray Stray = true
stray (Inside d) = false

-- inside of a form at least its own parenthesis is open
abbrev pub Opened : Standing → Type 0
Opened First = Unit {0}
Opened Stray = Unit {0}
Opened (Inside d) = 0 < d
