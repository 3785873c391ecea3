-- The eleven reserved words and the five operators.
use Rattle.std.specs.Prelude.{◌≡◌, ℕ, ◌+◌, Bool, true, cond, ◌&&◌, List, [], ◌∷◌, length, Some, None, codes, Option, ◌==◌, slice_index}
use Rattle.reader.specs.declared.keyword.Keyword.{Keyword}
use Rattle.reader.specs.declared.keyword.Keyword.TheVariants.{Def, Let, Enum, If, While, Do, Set, Vec, Setv, New, Sys, Add, Sub, Eq, Lt, Gt}

-- whether a word is spelled so from its byte i on
abbrev pub spells_from : List ℕ → ℕ → List ℕ → Bool
spells_from w i [] = true
spells_from w i (c ∷ cs) = slice_index w i == c && spells_from w (i + 1) cs

abbrev pub spells : List ℕ → List ℕ → Bool
spells w s = length w == length s && spells_from w 0 s

abbrev pub keyword_in : List ℕ → Option Keyword
keyword_in w =
    cond (spells w (codes "def")) (Some Def)
    (cond (spells w (codes "let")) (Some Let)
    (cond (spells w (codes "enum")) (Some Enum)
    (cond (spells w (codes "if")) (Some If)
    (cond (spells w (codes "while")) (Some While)
    (cond (spells w (codes "do")) (Some Do)
    (cond (spells w (codes "set")) (Some Set)
    (cond (spells w (codes "vec")) (Some Vec)
    (cond (spells w (codes "setv")) (Some Setv)
    (cond (spells w (codes "new")) (Some New)
    (cond (spells w (codes "sys")) (Some Sys)
    (cond (spells w (codes "+")) (Some Add)
    (cond (spells w (codes "-")) (Some Sub)
    (cond (spells w (codes "=")) (Some Eq)
    (cond (spells w (codes "<")) (Some Lt)
    (cond (spells w (codes ">")) (Some Gt) None)))))))))))))))

-- what a word is as the head of a form
unfoldable pub keyword : List ℕ → Option Keyword
keyword w = keyword_in w

-- the word of each
abbrev pub keyword_word : Keyword → List ℕ
keyword_word Def = codes "def"
keyword_word Let = codes "let"
keyword_word Enum = codes "enum"
keyword_word If = codes "if"
keyword_word While = codes "while"
keyword_word Do = codes "do"
keyword_word Set = codes "set"
keyword_word Vec = codes "vec"
keyword_word Setv = codes "setv"
keyword_word New = codes "new"
keyword_word Sys = codes "sys"
keyword_word Add = codes "+"
keyword_word Sub = codes "-"
keyword_word Eq = codes "="
keyword_word Lt = codes "<"
keyword_word Gt = codes ">"

-- each is what its own word is
abbrev pub KeywordsReadBack : Type 0
KeywordsReadBack = (k : Keyword) → keyword (keyword_word k) ≡ Some k
