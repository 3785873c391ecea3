-- The tokens of an accepted text are those of its definition, written out.
use Rattle.std.specs.Prelude.{◌≡◌, ℕ, List, [], ◌∷◌, ◌++◌, map, Some, Ok, codes}
use Rattle.scanner.specs.Scans.{lexemes_of}
use Rattle.scanner.specs.Words.{Lexeme, opens, closes, name, number, value}
use Rattle.reader.specs.Definitions.{Named, Defined, function, global, enumeration}
use Rattle.reader.specs.Faults.{reading}
use Rattle.reader.specs.Forms.{Forest, none, named, numbered, form}

-- a token by its bytes
abbrev pub Spelled : Type 0
Spelled = List ℕ

abbrev pub spelled : Lexeme → Spelled
spelled (opens p) = codes "("
spelled (closes p) = codes ")"
spelled (name w p) = w
spelled (number w v p) = w

-- elements between two parentheses
abbrev pub in_parentheses : List Spelled → List Spelled
in_parentheses ws = codes "(" ∷ (ws ++ (codes ")" ∷ []))

abbrev pub forest_spelled : Forest → List Spelled
forest_spelled none = []
forest_spelled (named w p rest) = w ∷ forest_spelled rest
forest_spelled (numbered w v p rest) = w ∷ forest_spelled rest
forest_spelled (form p f rest) = in_parentheses (forest_spelled f) ++ forest_spelled rest

abbrev pub names_spelled : List Named → List Spelled
names_spelled ns = map (λ n. n.bytes) ns

-- the tokens of a definition; the number of an enumeration may be spelled in any way that has its value
abbrev pub Spells : List Spelled → Defined → Type 0
Spells ws (function n formals locals body) =
    ws ≡ in_parentheses (codes "def" ∷ (n.bytes ∷ (in_parentheses (names_spelled formals) ++ (in_parentheses (names_spelled locals) ++ forest_spelled body))))
Spells ws (global n) = ws ≡ in_parentheses (codes "let" ∷ (n.bytes ∷ []))
Spells ws (enumeration v names) = (w : List ℕ) × (value w ≡ Some v) × (ws ≡ in_parentheses (codes "enum" ∷ (w ∷ names_spelled names)))

abbrev pub NothingIsLost : List ℕ → Type 0
NothingIsLost text = (d : Defined) → reading text ≡ Ok d → Spells (map spelled (lexemes_of text)) d
