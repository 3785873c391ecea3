-- Every piece is the part of the text at its place, and a word is letters.
use Rattle.std.proofs.Common.{◌≡◌, ℕ, ◌+◌, List, [], ◌∷◌, length, take, drop, sym, refl, ap, ◌∙◌, arith}
use Rattle.std.specs.List.{AllByRecursion}
use Rattle.std.proofs.lemmas.List.{drop-drop}
use Rattle.scanner.specs.Bytes.{class}
use Rattle.scanner.specs.Pieces.{spelled, Mode, between, letters, if_letter, pieces}
use Rattle.scanner.specs.Laws.{Part, Lettered, PartsOfTheText}
use Rattle.scanner.specs.declared.class.Class.{Class}
use Rattle.scanner.specs.declared.class.Class.TheVariants.{Open, Close, Letter}
use Rattle.scanner.proofs.Places.{byte_of, all_step}

letters_front : (bs : List ℕ) → take (length (letters bs)) bs ≡ letters bs
letters_front [] = refl
letters_front (b ∷ bs) = front (class b) (letters_front bs)
  where
    front : (k : Class) → take (length (letters bs)) bs ≡ letters bs → take (length (if_letter k (b ∷ letters bs))) (b ∷ bs) ≡ if_letter k (b ∷ letters bs)
    front Letter h = ap (λ w. b ∷ w) h
    front _ h = refl

letters_all : (bs : List ℕ) → AllByRecursion (λ b. class b ≡ Letter) (letters bs)
letters_all [] = tt
letters_all (b ∷ bs) = all (class b) refl (letters_all bs)
  where
    all : (k : Class) → class b ≡ k → AllByRecursion (λ b. class b ≡ Letter) (letters bs) → AllByRecursion (λ b. class b ≡ Letter) (if_letter k (b ∷ letters bs))
    all Letter e h = (e, h)
    all _ e h = tt

module _ (text : List ℕ) (p b : ℕ) (bs : List ℕ) (rest : drop p text ≡ b ∷ bs) where
  -- the byte at p alone
  one_byte : (c : ℕ) → b ≡ c → take 1 (drop p text) ≡ c ∷ []
  one_byte c e = ap (take 1) rest ∙ ap (λ b. b ∷ []) e

  -- the word that begins at p
  word : class b ≡ Letter → Part text (spelled (letters (b ∷ bs)) p) × Lettered (spelled (letters (b ∷ bs)) p)
  word e =
      let some : letters (b ∷ bs) ≡ b ∷ letters bs = ap (λ k. if_letter k (b ∷ letters bs)) e in
      let long : length (letters (b ∷ bs)) ≡ length (b ∷ letters bs) = ap length some in
      (ap (take (length (letters (b ∷ bs)))) rest ∙ letters_front (b ∷ bs), (omega arith, letters_all (b ∷ bs)))

  behind : drop (p + 1) text ≡ bs
  behind = sym (drop-drop 1 p text) ∙ ap (drop 1) rest

parts_from : (text : List ℕ) (m : Mode) (p : ℕ) (bs : List ℕ) → drop p text ≡ bs → AllByRecursion (λ x. Part text x × Lettered x) (pieces m p bs)
parts_from text m p [] rest = tt
parts_from text m p (b ∷ bs) rest =
    all_step (λ x. Part text x × Lettered x) m (class b) b p (letters (b ∷ bs)) (λ n. pieces n (p + 1) bs)
    (λ e. (one_byte text p b bs rest 40 (byte_of Open b e), tt))
    (λ e. (one_byte text p b bs rest 41 (byte_of Close b e), tt))
    (word text p b bs rest)
    (λ e. (one_byte text p b bs rest b refl, e))
    (λ n. parts_from text n (p + 1) bs (behind text p b bs rest))

pub parts_of_the_text : (text : List ℕ) → PartsOfTheText text
parts_of_the_text text = parts_from text between 0 text refl
