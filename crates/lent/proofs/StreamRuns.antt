-- Laws of a run's lines as the loops take and store them, 13 words each. Assumes nothing.
use mathlib.Core.Path.{◌≡◌, refl, sym, ap, ◌∙◌}
use mathlib.Core.Bool.{Bool, true, false}
use mathlib.Core.List.{List, [], ◌∷◌, ◌++◌}
use Prim.Native.Nat.{ℕ, zero, suc, ◌+◌, ◌-◌, ◌*◌, ◌≤◌, ◌<◌}
use native.Mathlib.Nat.{add-zero}
use native.Mathlib.Numerals.{add-one}
use native.Mathlib.Omega.{arith}
use borrow.Author.Tests.{le-leb, lt-leb}
use lib.Dec.{leb}
use lib.ListN.{length, get_or, set, drop, drop_of_length-le}
use lib.Seq.{sets, drop-cons, drop-drop, get_or-drop}
use Rattle.answers.specs.Conditions.{all}
use Rattle.answers.proofs.Conditions.{and_left, and_right}
use Rattle.answers.proofs.Stores.{sets-append, sets-step}
use Rattle.sources.specs.declared.Place.{Place}
use Rattle.sources.specs.declared.runs.Tally.{Tally}
use Rattle.sources.specs.Places.{held, empty_place, held_of}
use Rattle.sources.specs.Rules.{rising}
use Rattle.sources.specs.Rows.{Line, line_of, no_line}
use Rattle.lent.specs.SourceWords.{source_with, source_words}
use Rattle.lent.specs.StreamWords.{is_held, place_in, each_line, line_words, lines_words}

-- ---- reads

pub length-each : {A : Type 0} (read : List ℕ → A) (n : ℕ) (ws : List ℕ) → length (each_line read n ws) ≡ n
unfolding each_line
length-each read zero ws = refl
length-each read (suc n) ws = ap suc (length-each read n (drop 13 ws))

pub each_none : {A : Type 0} (read : List ℕ → A) (n i : ℕ) (ws : List ℕ) → n ≤ i → each_line read (n - i) ws ≡ []
unfolding each_line
each_none read n i ws h = let e : n - i ≡ 0 = omega arith in rw e

module _ (n i : ℕ) (ws : List ℕ) (h : i < n) where
  fewer : n - i ≡ suc (n - (i + 1))
  fewer = omega arith

  behind : drop 13 (drop (13 * i) ws) ≡ drop (13 * (i + 1)) ws
  behind = let q : 13 * i + 13 ≡ 13 * (i + 1) = omega arith in drop-drop 13 (13 * i) ws ∙ ap (λ (k : ℕ). drop k ws) q

  pub each_turn : {A : Type 0} (read : List ℕ → A) → each_line read (n - i) (drop (13 * i) ws) ≡ read (drop (13 * i) ws) ∷ each_line read (n - (i + 1)) (drop (13 * (i + 1)) ws)
  unfolding each_line
  each_turn read = rw (fewer, behind)

  -- a turn of a loop that takes what each line has
  pub take-turn : {A : Type 0} (read : List ℕ → A) (xs : List A)
      → sets (set xs i (read (drop (13 * i) ws))) (i + 1) (each_line read (n - (i + 1)) (drop (13 * (i + 1)) ws)) ≡ sets xs i (each_line read (n - i) (drop (13 * i) ws))
  unfolding each_line
  take-turn read xs = rw (fewer, behind, add-one i)

  -- a turn of a loop that tests each line
  module _ (test : List ℕ → Bool) where
    pub test_ends : test (drop (13 * i) ws) ≡ false → all (each_line test (n - i) (drop (13 * i) ws)) ≡ false
    test_ends e = ap all (each_turn test) ∙ rw e

    pub test_goes : test (drop (13 * i) ws) ≡ true → all (each_line test (n - i) (drop (13 * i) ws)) ≡ all (each_line test (n - (i + 1)) (drop (13 * (i + 1)) ws))
    test_goes e = ap all (each_turn test) ∙ rw e

pub each_at : (test : List ℕ → Bool) (n i : ℕ) (ws : List ℕ) → i < n → all (each_line test n ws) ≡ true → test (drop (13 * i) ws) ≡ true
unfolding each_line
each_at test zero i ws h e = absurd (omega arith)
each_at test (suc n) zero ws h e = and_left (test ws) (all (each_line test n (drop 13 ws))) e
each_at test (suc n) (suc i) ws h e =
    let q : 13 + 13 * i ≡ 13 * suc i = omega arith in
    sym (ap test (drop-drop (13 * i) 13 ws ∙ ap (λ (k : ℕ). drop k ws) q))
    ∙ each_at test n i (drop 13 ws) (omega arith) (and_right (test ws) (all (each_line test n (drop 13 ws))) e)

-- ---- a held line

abbrev pub marks : List ℕ → ℕ
marks line = get_or line 3 0 + get_or line 4 0 + get_or line 5 0 + get_or line 6 0

pub held_is : (line : List ℕ) → is_held line ≡ leb 1 (marks line)
unfolding source_with
held_is line = λ i. leb 1 (get_or-drop 1 line 2 0 i + get_or-drop 1 line 3 0 i + get_or-drop 1 line 4 0 i + get_or-drop 1 line 5 0 i)

-- ---- rising SSRCs

abbrev pub ssrc_at : List ℕ → ℕ → ℕ
ssrc_at ws i = get_or ws (13 * i) 0

-- from line i on, behind the one before it
abbrev pub rises_from : ℕ → List ℕ → ℕ → Bool
rises_from n ws i = rising (ssrc_at ws (i - 1) + 1) (each_line place_in (n - i) (drop (13 * i) ws))

pub rise_begins : (n : ℕ) (ws : List ℕ) → rises_from n ws 1 ≡ rising 0 (each_line place_in n ws)
unfolding each_line rising
rise_begins zero ws = refl
rise_begins (suc n) ws = let e : suc n - 1 ≡ n = omega arith in rw (e, le-leb 0 (get_or ws 0 0) (omega arith))

module _ (n i : ℕ) (ws : List ℕ) (h : i < n) where
  its_ssrc : get_or (drop (13 * i) ws) 0 0 ≡ ssrc_at ws i
  its_ssrc = get_or-drop (13 * i) ws 0 0 ∙ ap (λ (k : ℕ). get_or ws k 0) (add-zero (13 * i))

  pub rise_ends : ssrc_at ws i ≤ ssrc_at ws (i - 1) → rises_from n ws i ≡ false
  unfolding rising
  rise_ends g = ap (rising (ssrc_at ws (i - 1) + 1)) (each_turn n i ws h place_in) ∙ rw (its_ssrc, lt-leb (ssrc_at ws (i - 1) + 1) (ssrc_at ws i) (omega arith))

  pub rise_goes : ssrc_at ws (i - 1) < ssrc_at ws i → rises_from n ws i ≡ rises_from n ws (i + 1)
  unfolding rising
  rise_goes g =
      let e : (i + 1) - 1 ≡ i = omega arith in
      ap (rising (ssrc_at ws (i - 1) + 1)) (each_turn n i ws h place_in) ∙ rw (its_ssrc, le-leb (ssrc_at ws (i - 1) + 1) (ssrc_at ws i) (omega arith), e)

-- ---- stores

pub length-line : (l : Line) → length (line_words l) ≡ 13
unfolding source_words
length-line l = refl

-- the parts of a line stored one after the other
pub three_parts : (l : List ℕ) (at : ℕ) (p : Place) (t : Tally)
    → sets (sets (set l at p.ssrc) (at + 1) (source_words p.source)) (at + 11) (t.jumped ∷ t.restarts ∷ []) ≡ sets l at (line_words (line_of p t))
unfolding source_words
three_parts l at p t =
    let s = source_words p.source in
    let back = t.jumped ∷ t.restarts ∷ [] in
    let one : at + 1 ≡ suc at = omega arith in
    let last : at + 11 ≡ suc at + length s = omega arith in
    (λ i. sets (sets (set l at p.ssrc) (one i) s) (last i) back) ∙ sym (sets-append (set l at p.ssrc) (suc at) s back)

module _ (ls : List Line) (i : ℕ) (old : List ℕ) where
  -- a turn of a loop that stores the lines
  pub store_turn : {out : List ℕ} → i < length ls → out ≡ sets old (13 * i) (line_words (get_or ls i no_line))
      → sets out (13 * (i + 1)) (lines_words (drop (i + 1) ls)) ≡ sets old (13 * i) (lines_words (drop i ls))
  unfolding lines_words
  store_turn h e =
      let l = get_or ls i no_line in
      let next : 13 * (i + 1) ≡ 13 * i + length (line_words l) = omega (arith, length-line l) in
      let left : lines_words (drop i ls) ≡ line_words l ++ lines_words (drop (i + 1) ls) = rw add-one (ap lines_words (drop-cons ls i no_line h)) in
      sets-step old (13 * i) (line_words l) (lines_words (drop (i + 1) ls)) left e next

  pub store_done : length ls ≤ i → old ≡ sets old (13 * i) (lines_words (drop i ls))
  unfolding lines_words
  store_done h = rw (drop_of_length-le ls {i = i} h)

-- ---- the held places in front, one by one

module _ (ps : List Place) (i : ℕ) where
  pub held_goes : i < length ps → held (get_or ps i empty_place) ≡ true → (i + 1) + length (held_of (drop (i + 1) ps)) ≡ i + length (held_of (drop i ps))
  unfolding held_of
  held_goes h e =
      let q : drop i ps ≡ get_or ps i empty_place ∷ drop (i + 1) ps = rw add-one (drop-cons ps i empty_place h) in
      let s : length (held_of (drop i ps)) ≡ suc (length (held_of (drop (i + 1) ps))) = ap (λ (l : List Place). length (held_of l)) q ∙ rw e in
      omega (arith, s)

  pub held_ends : i < length ps → held (get_or ps i empty_place) ≡ false → i + length (held_of (drop i ps)) ≡ i
  unfolding held_of
  held_ends h e =
      let q : drop i ps ≡ get_or ps i empty_place ∷ drop (i + 1) ps = rw add-one (drop-cons ps i empty_place h) in
      let s : length (held_of (drop i ps)) ≡ 0 = ap (λ (l : List Place). length (held_of l)) q ∙ rw e in
      omega (arith, s)

  pub held_done : length ps ≤ i → i + length (held_of (drop i ps)) ≡ i
  unfolding held_of
  held_done h = let s : length (held_of (drop i ps)) ≡ 0 = rw (drop_of_length-le ps {i = i} h) in omega (arith, s)
