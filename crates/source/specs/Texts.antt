-- The texts of a file, one after another.
use Rattle.std.specs.Prelude.{◌≡◌, ◌+◌, List, ℕ, length, drop, Some, None, Option, MatchOption}
use Rattle.source.specs.Cuts.{first_text}
use Rattle.source.specs.declared.texts.Text.{Text}
use Rattle.source.specs.declared.texts.Texts.{Texts}

-- what no text was taken of
abbrev pub untaken : Texts → List ℕ
untaken s = drop s.place s.file.now

-- x is the first text of s, at its place, and t goes on behind it
pub record Took (s : Texts) (x : Text) (t : Texts) : Type 0 where
  pub bytes : first_text (untaken s) ≡ Some x.bytes.now
  pub place : x.place ≡ s.place
  pub file : t.file.now ≡ s.file.now
  pub behind : t.place ≡ s.place + length x.bytes.now

-- r is the first text of s, if it has one, and t has the others; where it has none, t is s
abbrev pub TakesText : Texts → Option Text → Texts → Type 0
TakesText s r t = MatchOption r ((first_text (untaken s) ≡ None) × (t ≡ s)) (λ x. Took s x t)
