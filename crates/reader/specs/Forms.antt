-- The forms that the tokens of a text make.
use Rattle.std.specs.Prelude.{ℕ, ◌+◌, ◌≤◌, max, Bool, true, false, cond, ◌&&◌, List, [], ◌∷◌, ◌++◌, ℤ, Some, None, Option}
use Rattle.std.specs.Option.{option_or}
use Rattle.scanner.specs.Scans.{ahead, lexeme}
use Rattle.scanner.specs.declared.scanner.Scanner.{Scanner}
use Rattle.scanner.specs.declared.token.Token.{Token}
use Rattle.scanner.specs.Words.{Lexeme, opens, closes, name, number}
use Rattle.reader.specs.Keywords.{keyword}
use Rattle.reader.specs.Shapes.{shape, takes}
use Rattle.reader.specs.declared.elements.Survey.{Survey}
use Rattle.reader.specs.declared.shape.Leading.{Leading}
use Rattle.reader.specs.declared.shape.Leading.TheVariants.{Nothing, Name, Number, Form}
use Rattle.reader.specs.declared.shape.Shape.{Shape}

-- the elements of a list in order: names, numbers, and forms with elements of their own, each with its place
pub data Forest : Type 0 where
  none : Forest
  named : List ℕ → ℕ → Forest → Forest
  numbered : List ℕ → ℤ → ℕ → Forest → Forest
  form : ℕ → Forest → Forest → Forest

-- the elements up to the parenthesis that closes this list, and how each list around goes on
pub record Pile : Type 0 where
  pub here : Forest
  pub around : List Forest

abbrev pub first_list : List Forest → Forest
first_list [] = none
first_list (f ∷ fs) = f

abbrev pub other_lists : List Forest → List Forest
other_lists [] = []
other_lists (f ∷ fs) = fs

-- past the end of this list
abbrev pub out : Pile → Pile
out s = record { here = first_list s.around; around = other_lists s.around }

abbrev pub grow : List Lexeme → Pile
grow [] = record { here = none; around = [] }
grow (opens p ∷ ls) = record { here = form p (grow ls).here (out (grow ls)).here; around = (out (grow ls)).around }
grow (closes p ∷ ls) = record { here = none; around = (grow ls).here ∷ (grow ls).around }
grow (name w p ∷ ls) = record { here = named w p (grow ls).here; around = (grow ls).around }
grow (number w v p ∷ ls) = record { here = numbered w v p (grow ls).here; around = (grow ls).around }

-- what the tokens that a scanner has still to give make, and their elements
abbrev pub pile_ahead : Scanner → Pile
pile_ahead s = grow (ahead s)

abbrev pub forest_ahead : Scanner → Forest
forest_ahead s = (pile_ahead s).here

-- the same from a token on that was taken from it
abbrev pub pile_from : Token → Scanner → Pile
pile_from t s = grow (lexeme t ∷ ahead s)

abbrev pub tail : Forest → Forest
tail none = none
tail (named w p rest) = rest
tail (numbered w v p rest) = rest
tail (form p f rest) = rest

-- past the first element
abbrev pub behind : Pile → Pile
behind s = record { here = tail s.here; around = s.around }

abbrev pub count : Forest → ℕ
count none = 0
count (named w p rest) = 1 + count rest
count (numbered w v p rest) = 1 + count rest
count (form p f rest) = 1 + count rest

-- the elements at any depth
abbrev pub size : Forest → ℕ
size none = 0
size (named w p rest) = 1 + size rest
size (numbered w v p rest) = 1 + size rest
size (form p f rest) = 1 + size f + size rest

-- the most parentheses open at once
abbrev pub depth : Forest → ℕ
depth none = 0
depth (named w p rest) = depth rest
depth (numbered w v p rest) = depth rest
depth (form p f rest) = max (1 + depth f) (depth rest)

abbrev pub leading : Forest → Leading
leading none = Nothing
leading (named w p rest) = Name
leading (numbered w v p rest) = Number v
leading (form p f rest) = Form

abbrev pub only_names : Forest → Bool
only_names none = true
only_names (named w p rest) = only_names rest
only_names (numbered w v p rest) = false
only_names (form p f rest) = false

abbrev pub fits_shape : Option Shape → Forest → Bool
fits_shape None rest = false
fits_shape (Some s) rest = takes s (leading rest) (count rest)

-- whether elements make an expression: a head, and what the head takes
abbrev pub fits : Forest → Bool
fits none = false
fits (named w p rest) = fits_shape (shape (keyword w)) rest
fits (numbered w v p rest) = false
fits (form p f rest) = false

-- the places of the forms that are no expression; what stands inside one is not looked at
abbrev pub misfits : Forest → List ℕ
misfits none = []
misfits (named w p rest) = misfits rest
misfits (numbered w v p rest) = misfits rest
misfits (form p f rest) = cond (fits f) (misfits f) (p ∷ []) ++ misfits rest

-- the first of them, as it is found on one way through the elements
abbrev pub misfit : Forest → Option ℕ
misfit none = None
misfit (named w p rest) = misfit rest
misfit (numbered w v p rest) = misfit rest
misfit (form p f rest) = option_or (cond (fits f) (misfit f) (Some p)) (misfit rest)

-- what is found of elements, and of elements before others
abbrev pub survey : Forest → Survey
survey f = record { count = count f; only_names = only_names f; misfit = misfit f }

abbrev pub both : Survey → Survey → Survey
both a b = record { count = a.count + b.count; only_names = a.only_names && b.only_names; misfit = option_or a.misfit b.misfit }

-- what is found of one element
abbrev pub of_one : Bool → Option ℕ → Survey
of_one is_name misfit = record { count = 1; only_names = is_name; misfit = misfit }

-- what is found of the first element
abbrev pub survey_first : Forest → Survey
survey_first none = survey none
survey_first (named w p rest) = of_one true None
survey_first (numbered w v p rest) = of_one false None
survey_first (form p f rest) = of_one false (cond (fits f) (misfit f) (Some p))

-- a token that is an element or begins one
abbrev pub begins : Lexeme → Bool
begins (opens p) = true
begins (closes p) = false
begins (name w p) = true
begins (number w v p) = true

-- what a reader that may open `room` further parentheses can read
pub record Readable (room : ℕ) (f : Forest) : Type 0 where
  pub shallow : depth f ≤ room
  pub small : size f ≤ 8192
