-- To how many pieces each byte of a text belongs: its class says it, and where the scanner stands before it.
use Rattle.std.proofs.Common.{◌≡◌, ℕ, zero, suc, ◌+◌, ◌<◌, ◌≤◌, cond, ltb, ◌⊎◌, List, [], ◌∷◌, length, get_or, sym, refl, ap, ◌∙◌, subst, inl, inr, ⊎_elim, zero-add, arith}
use Rattle.std.specs.List.{AllByRecursion}
use Rattle.std.proofs.ByRecursion.{All-weaker}
use Rattle.std.proofs.lemmas.Bool.{cases_lt}
use Rattle.std.proofs.lemmas.Bool.Decides.{nat_tests}
use Rattle.scanner.specs.Bytes.{class}
use Rattle.scanner.specs.Pieces.{Piece, piece_place, Mode, between, in_word, in_comment, letters, if_letter, step, pieces, pieces_of}
use Rattle.scanner.specs.Laws.{owners, Commented, EachByteOwned}
use Rattle.scanner.specs.declared.class.Class.{Class}
use Rattle.scanner.specs.declared.class.Class.TheVariants.{Blank, LineFeed, Semicolon, Letter, Foreign}
use Rattle.scanner.proofs.Modes.{stays, next, leads_in_comment}
use Rattle.scanner.proofs.Places.{byte_of, places_from}

-- where the scanner stands behind i bytes
abbrev pub behind : ℕ → Mode → List ℕ → Mode
behind zero m bs = m
behind (suc i) m [] = m
behind (suc i) m (b ∷ bs) = behind i (next m (class b)) bs

behind_more : (i : ℕ) (m : Mode) (bs : List ℕ) → i < length bs → behind (suc i) m bs ≡ next (behind i m bs) (class (get_or bs i 0))
behind_more i m [] l = absurd (omega arith)
behind_more zero m (b ∷ bs) l = refl
behind_more (suc i) m (b ∷ bs) l = behind_more i (next m (class b)) bs (omega arith)

-- to how many pieces a byte of the class belongs
abbrev count_outside : Class → ℕ
count_outside Blank = 0
count_outside LineFeed = 0
count_outside Semicolon = 0
count_outside _ = 1

abbrev count_hushed : Class → ℕ
count_hushed Foreign = 1
count_hushed _ = 0

abbrev count : Mode → Class → ℕ
count in_comment k = count_hushed k
count _ k = count_outside k

-- one for byte i if it belongs to the word in which the scanner stands, of which the letters w are left
abbrev begun : Mode → ℕ → List ℕ → ℕ
begun in_word i w = cond (ltb i (length w)) 1 0
begun _ i w = 0

none_before : (i : ℕ) (xs : List Piece) → AllByRecursion (λ x. i < piece_place x) xs → owners i xs ≡ 0
none_before i [] h = refl
none_before i (x ∷ xs) h = let l = h.0 in let n = none_before i xs h.1 in grind (arith, nat_tests)

none_here : (m : Mode) (p : ℕ) (bs : List ℕ) → owners p (pieces m (p + 1) bs) ≡ 0
none_here m p bs = none_before p (pieces m (p + 1) bs) (All-weaker (λ x. p + 1 ≤ piece_place x) (λ x. p < piece_place x) (λ x h. omega arith) (pieces m (p + 1) bs) (places_from m (p + 1) bs))

module _ (b p : ℕ) (w : List ℕ) (go : Mode → List Piece) where
  here_step : (m : Mode) (k : Class) → ((n : Mode) → owners p (go n) ≡ 0) → owners p (step m k b p (if_letter k (b ∷ w)) go) + begun m 0 (if_letter k (b ∷ w)) ≡ count m k
  here_step in_comment LineFeed h = omega (arith, h between)
  here_step in_comment Foreign h = let e = h in_comment in grind (arith, nat_tests)
  here_step in_comment _ h = omega (arith, h in_comment)
  here_step in_word Semicolon h = omega (arith, h in_comment)
  here_step in_word Letter h = let e = h in_word in grind (arith, nat_tests)
  here_step in_word _ h = let e = h between in grind (arith, nat_tests)
  here_step between Semicolon h = omega (arith, h in_comment)
  here_step between Letter h = let e = h in_word in grind (arith, nat_tests)
  here_step between _ h = let e = h between in grind (arith, nat_tests)

  later_step : (m : Mode) (k : Class) (i : ℕ) → owners (p + suc i) (step m k b p (if_letter k (b ∷ w)) go) + begun m (suc i) (if_letter k (b ∷ w)) ≡ owners (p + suc i) (go (next m k)) + begun (next m k) i w
  later_step in_comment LineFeed i = refl
  later_step in_comment Foreign i = grind (arith, nat_tests)
  later_step in_comment _ i = refl
  later_step in_word Letter i = grind (arith, nat_tests)
  later_step in_word _ i = grind (arith, nat_tests)
  later_step between Letter i = grind (arith, nat_tests)
  later_step between _ i = grind (arith, nat_tests)

owners_from : (m : Mode) (p : ℕ) (bs : List ℕ) (i : ℕ) → i < length bs → owners (p + i) (pieces m p bs) + begun m i (letters bs) ≡ count (behind i m bs) (class (get_or bs i 0))
owners_from m p [] i l = absurd (omega arith)
owners_from m p (b ∷ bs) zero l =
    let e : p ≡ p + 0 = omega arith in
    subst (λ q. owners q (pieces m p (b ∷ bs)) + begun m 0 (letters (b ∷ bs)) ≡ count m (class b)) e
    (here_step b p (letters bs) (λ n. pieces n (p + 1) bs) m (class b) (λ n. none_here n p bs))
owners_from m p (b ∷ bs) (suc i) l =
    let n = next m (class b) in
    let e : p + 1 + i ≡ p + suc i = omega arith in
    later_step b p (letters bs) (λ n. pieces n (p + 1) bs) m (class b) i
    ∙ subst (λ q. owners q (pieces n (p + 1) bs) + begun n i (letters bs) ≡ count (behind i n bs) (class (get_or bs i 0))) e (owners_from n (p + 1) bs i (omega arith))

owners_are : (text : List ℕ) (i : ℕ) → i < length text → owners i (pieces_of text) ≡ count (behind i between text) (class (get_or text i 0))
owners_are text i l =
    let from_0 : owners (0 + i) (pieces_of text) ≡ count (behind i between text) (class (get_or text i 0)) = omega (arith, owners_from between 0 text i l) in
    rw zero-add at from_0

-- a scanner that stands in a comment came to a semicolon, or stood in a comment and came to no line feed
comes : (m : Mode) (k : Class) → next m k ≡ in_comment → (k ≡ Semicolon) ⊎ ((m ≡ in_comment) × (k ≡ LineFeed → ⊥))
comes in_comment k e = inr (refl, λ line. cc (ap stays line))
comes _ k e = inl (leads_in_comment k e)

opens : (m : Mode) → next m Semicolon ≡ in_comment
opens between = refl
opens _ = refl

goes_on : (k : Class) → (k ≡ LineFeed → ⊥) → next in_comment k ≡ in_comment
goes_on LineFeed other = absurd (other refl)
goes_on _ other = refl

module _ (text : List ℕ) where
  commented_here : (i : ℕ) → class (get_or text i 0) ≡ Semicolon → Commented text i
  commented_here i e = (i, omega arith, byte_of Semicolon (get_or text i 0) e, λ k a b. omega arith)

  commented_more : (i : ℕ) → Commented text i → (class (get_or text i 0) ≡ LineFeed → ⊥) → Commented text (suc i)
  commented_more i c other = (
    c.0,
    omega (arith, c.1),
    c.2,
    λ k a b line.
        ⊎_elim (λ l. c.3 k a l line) (λ l. let same : k ≡ i = omega arith in other (ap (λ n. class (get_or text n 0)) (sym same) ∙ ap class line)) (cases_lt k i),
  )

  pub commented : (i : ℕ) → i ≤ length text → behind i between text ≡ in_comment → Commented text i
  commented zero l e = cc
  commented (suc i) l e =
      let k = class (get_or text i 0) in
      ⊎_elim
      (λ semi. commented_more i (commented_here i semi) (λ line. cc))
      (λ on. commented_more i (commented i (omega arith) on.0) on.1)
      (comes (behind i between text) k (sym (behind_more i between text (omega arith)) ∙ e))

  semicolon_at : (i : ℕ) (c : Commented text i) → i ≤ c.0 → class (get_or text i 0) ≡ Semicolon
  semicolon_at i c l = let same : c.0 ≡ i = omega (arith, c.1) in ap class (subst (λ n. get_or text n 0 ≡ 59) same c.2)

  commented_or_opens : (i : ℕ) → i < length text → Commented text i → (behind i between text ≡ in_comment) ⊎ (class (get_or text i 0) ≡ Semicolon)
  commented_or_opens zero l c = inr (semicolon_at 0 c (omega arith))
  commented_or_opens (suc i) l c =
      let m = behind i between text in
      let k = class (get_or text i 0) in
      ⊎_elim
      (λ before.
      let other : k ≡ LineFeed → ⊥ = λ line. c.3 i (omega arith) (omega arith) (byte_of LineFeed (get_or text i 0) line) in
      let on : next m k ≡ in_comment =
      ⊎_elim (λ e. ap (λ m. next m k) e ∙ goes_on k other) (λ e. ap (next m) e ∙ opens m)
      (commented_or_opens i (omega arith) (c.0, omega arith, c.2, λ k a b. c.3 k a (omega arith))) in
      inl (behind_more i between text (omega arith) ∙ on))
      (λ here. inr (semicolon_at (suc i) c here))
      (cases_lt c.0 (suc i))

-- a class that counts the same in a comment and outside
count_both : (k : Class) (n : ℕ) → count_outside k ≡ n → count_hushed k ≡ n → (m : Mode) → count m k ≡ n
count_both k n o h in_comment = h
count_both k n o h _ = o

count_hushed_none : (k : Class) → (k ≡ Foreign → ⊥) → count_hushed k ≡ 0
count_hushed_none Foreign other = absurd (other refl)
count_hushed_none _ other = refl

count_outside_one : (k : Class) → (k ≡ Blank → ⊥) → (k ≡ LineFeed → ⊥) → (k ≡ Semicolon → ⊥) → count_outside k ≡ 1
count_outside_one Blank blank line semi = absurd (blank refl)
count_outside_one LineFeed blank line semi = absurd (line refl)
count_outside_one Semicolon blank line semi = absurd (semi refl)
count_outside_one _ blank line semi = refl

count_one : (m : Mode) (k : Class) → (m ≡ in_comment → ⊥) → count_outside k ≡ 1 → count m k ≡ 1
count_one in_comment k out e = absurd (out refl)
count_one _ k out e = e

pub each_byte_owned : (text : List ℕ) → EachByteOwned text
each_byte_owned text i l =
    let m = behind i between text in
    let k = class (get_or text i 0) in
    let are = owners_are text i l in
    let both : (c : Class) (n : ℕ) → count_outside c ≡ n → count_hushed c ≡ n → k ≡ c → owners i (pieces_of text) ≡ n = λ c n o h e. are ∙ ap (count m) e ∙ count_both c n o h m in
    record {
      one = λ whole quiet. are ∙ count_one m k (λ e. quiet (commented text i (omega arith) e)) (count_outside_one k (λ e. whole (inl e)) (λ e. whole (inr e)) (λ e. quiet (commented_here text i e)));
      odd = both Foreign 1 refl refl;
      parts = ⊎_elim (both Blank 0 refl refl) (both LineFeed 0 refl refl);
      comments = λ c other. ⊎_elim (λ e. are ∙ ap (λ m. count m k) e ∙ count_hushed_none k other) (both Semicolon 0 refl refl) (commented_or_opens text i l c);
    }
