-- A run of ecnstreams and its words: taking out and putting back are inverse. Assumes nothing.
use Rattle.std.specs.Prelude.{Option, Some, None, Ok}
use Rattle.format.specs.declared.Wire.{Wire}
use mathlib.Core.Path.{◌≡◌, refl, sym, ap, ap₂, ◌∙◌}
use mathlib.Core.Bool.{Bool, true, false, cond, not, ◌&&◌, false≢true}
use mathlib.Core.List.{List, [], ◌∷◌, ◌++◌, map, append_assoc}
use Prim.Native.Nat.{ℕ, zero, suc, ◌+◌, ◌-◌, ◌*◌, ◌^◌, ◌≤◌, ◌<◌}
use native.Mathlib.Nat.{zero-add}
use native.Mathlib.Omega.{arith}
use borrow.Author.Tests.{eqb-true, le-leb, le-ltb, ltb-true}
use lib.Dec.{eqb, leb, ltb}
use lib.IntN.{pos}
use lib.ListN.{length, get_or, take, drop, replicate, length-append, length-take, length-drop, take-append-drop}
use lib.Seq.{sets, sets-eq, length-sets, take_all, drop-drop, get_or-drop}
use Rattle.numbers.proofs.Integers.{eq_z_eq}
use Rattle.answers.specs.Conditions.{all}
use Rattle.answers.specs.declared.Refusal.TheVariants.{Malformed, Rules}
use Rattle.answers.proofs.Conditions.{and_left, and_right, all_true, true_is}
use Rattle.answers.proofs.Stores.{sets-front}
use Rattle.source.specs.Record.{nothing, zeros, fresh, wire_number}
use Rattle.sources.specs.declared.Place.{Place}
use Rattle.sources.specs.declared.Table.{Table}
use Rattle.sources.specs.declared.runs.Tally.{Tally}
use Rattle.sources.specs.declared.runs.Run.{Run}
use Rattle.sources.specs.Places.{held, empty, empty_place, sound_place, held_of, rest_of}
use Rattle.sources.specs.Rules.{most_places, rising, fault}
use Rattle.sources.specs.Tables.{lent, over, fault_in}
use Rattle.sources.specs.Tallies.{no_tally}
use Rattle.sources.specs.Runs.{run_fault}
use Rattle.sources.specs.Rows.{Line, line_of, lines_from, lines_of}
use Rattle.sources.proofs.Checking.{Kept, kept, kept_rises, kept_empties}
use Rattle.sources.proofs.Fronts.{front_rest, front_le}
use Rattle.sources.proofs.RunFaults.{GoodRun, good_run}
use Rattle.sources.proofs.LineLaws.{lines_long}
use Rattle.lent.specs.SourceWords.{remembered_word, source_with, source_words}
use Rattle.lent.specs.StreamWords.{run_words, line_words, lines_words, stored_lines, place_in, tally_in, each_line, held_in, run_of, is_held, line_fits, are_ruled, are_fit, words_fault, loaded, typed, Lendable, StreamBack, StreamWordsBack, TakenRules}
use Rattle.lent.proofs.SourceLaws.{remembered_back, held as held-source, elements, elements_are, words_front, sound_back}
use Rattle.lent.proofs.RunLaws.{form_fits, form_back, form_word_lem}
use Rattle.lent.proofs.StreamRuns.{length-each, length-line}
use Rattle.lent.proofs.StreamTaking.{three, few, enough, Sound, none_sound, taken}

-- ---- an empty place, and places behind the held ones

nothing_is : (r : Option Wire) → nothing r ≡ true → r ≡ None
nothing_is None e = refl
nothing_is (Some wire) e = absurd (false≢true e)

empty_is : (p : Place) → empty p ≡ true → p ≡ empty_place
unfolding fresh
empty_is p e =
    let s = p.source in
    let z : fresh s ≡ true = and_right (eqb p.ssrc 0) (fresh s) e in
    let zero-at : (k : ℕ) → get_or (zeros s) k true ≡ true = λ k. all_true (zeros s) k z in
    let ssrc = eqb-true p.ssrc 0 (and_left (eqb p.ssrc 0) (fresh s) e) in
    λ i. record {
      ssrc = ssrc i;
      source = record {
        base = record { 0 = eq_z_eq s.base.0 (pos 0) (true_is _ (zero-at 0)) i };
        highest = record { 0 = eq_z_eq s.highest.0 (pos 0) (true_is _ (zero-at 1)) i };
        notect = eqb-true s.notect 0 (zero-at 2) i;
        ect1 = eqb-true s.ect1 0 (zero-at 3) i;
        ect0 = eqb-true s.ect0 0 (zero-at 4) i;
        ce = eqb-true s.ce 0 (zero-at 5) i;
        duplicates = eqb-true s.duplicates 0 (zero-at 6) i;
        history = record { recent = eqb-true s.history.recent 0 (zero-at 7) i; older = eqb-true s.history.older 0 (zero-at 8) i };
        remembered = nothing_is s.remembered (zero-at 9) i;
      };
    }

all_empty : (qs : List Place) → all (map empty qs) ≡ true → qs ≡ replicate (length qs) empty_place
all_empty [] e = refl
all_empty (q ∷ qs) e =
    ap₂ (λ (p : Place) (ps : List Place). p ∷ ps) (empty_is q (and_left (empty q) (all (map empty qs)) e)) (all_empty qs (and_right (empty q) (all (map empty qs)) e))

drop-same : {A : Type 0} (x : A) (n m : ℕ) → drop n (replicate m x) ≡ replicate (m - n) x
drop-same x zero m = let e : m ≡ m - 0 = omega arith in ap (λ (k : ℕ). replicate k x) e
drop-same x (suc n) zero = let e : 0 ≡ 0 - suc n = omega arith in ap (λ (k : ℕ). replicate k x) e
drop-same x (suc n) (suc m) = let e : m - n ≡ suc m - suc n = omega arith in drop-same x n m ∙ ap (λ (k : ℕ). replicate k x) e

all_held : (ps : List Place) → all (map held (held_of ps)) ≡ true
unfolding held_of
all_held [] = refl
all_held (p ∷ ps) = go (held p) refl (all_held ps)
  where
    go : (b : Bool) → held p ≡ b → all (map held (held_of ps)) ≡ true → all (map held (cond b (p ∷ held_of ps) [])) ≡ true
    go true e m = rw e m
    go false e m = refl

-- ---- lines, and their words

pub length-lines : (ls : List Line) → length (lines_words ls) ≡ 13 * length ls
unfolding lines_words
length-lines [] = refl
length-lines (l ∷ ls) = length-append (line_words l) (lines_words ls) ∙ omega (arith, length-line l, length-lines ls)

each_map : {A B : Type 0} (f : A → B) (read : List ℕ → A) (n : ℕ) (ws : List ℕ) → each_line (λ l. f (read l)) n ws ≡ map f (each_line read n ws)
unfolding each_line
each_map f read zero ws = refl
each_map {B = B} f read (suc n) ws = ap (λ (t : List B). f (read ws) ∷ t) (each_map f read n (drop 13 ws))

module _ (p : Place) (t : Tally) (s : sound_place p ≡ true) (w : typed p ≡ true) (rest : List ℕ) where
  wire : wire_number p.source.remembered ≡ true
  wire = and_right (ltb p.ssrc (2 ^ 32)) (wire_number p.source.remembered) w

  -- the place of a line's words, whatever is behind them
  place_of_lem : place_in (line_words (line_of p t) ++ rest) ≡ p
  unfolding source_with source_words
  place_of_lem =
      let e = sym (held-source (source_words p.source) (sound_back p.source s wire)).2 in
      λ i. record { ssrc = p.ssrc; source = e i }

  line_fits_lem : line_fits (line_words (line_of p t) ++ rest) ≡ true
  unfolding source_words
  line_fits_lem =
      let most = (remembered_back p.source.remembered wire).1 in
      rw (and_left (ltb p.ssrc (2 ^ 32)) (wire_number p.source.remembered) w) (le-leb (remembered_word p.source.remembered) 65536 most)

module _ (rest : List ℕ) where
  each_place : (ps : List Place) (ts : List Tally) → all (map sound_place ps) ≡ true → all (map typed ps) ≡ true
      → each_line place_in (length ps) (lines_words (lines_from ps ts) ++ rest) ≡ ps
  unfolding each_line lines_words lines_from source_words
  each_place [] ts s w = refl
  each_place (p ∷ ps) ts s w =
      ap₂ (λ (q : Place) (qs : List Place). q ∷ qs)
      (place_of_lem p (get_or ts 0 no_tally) (and_left (sound_place p) (all (map sound_place ps)) s) (and_left (typed p) (all (map typed ps)) w) (lines_words (lines_from ps (drop 1 ts)) ++ rest))
      (each_place ps (drop 1 ts) (and_right (sound_place p) (all (map sound_place ps)) s) (and_right (typed p) (all (map typed ps)) w))

  each_fits : (ps : List Place) (ts : List Tally) → all (map sound_place ps) ≡ true → all (map typed ps) ≡ true
      → all (each_line line_fits (length ps) (lines_words (lines_from ps ts) ++ rest)) ≡ true
  unfolding each_line lines_words lines_from source_words
  each_fits [] ts s w = refl
  each_fits (p ∷ ps) ts s w =
      let here = line_fits_lem p (get_or ts 0 no_tally) (and_left (sound_place p) (all (map sound_place ps)) s) (and_left (typed p) (all (map typed ps)) w) (lines_words (lines_from ps (drop 1 ts)) ++ rest) in
      let more = each_fits ps (drop 1 ts) (and_right (sound_place p) (all (map sound_place ps)) s) (and_right (typed p) (all (map typed ps)) w) in
      ap₂ (λ (a b : Bool). a && b) here more

  each_tally : (ps : List Place) (ts : List Tally) → length ps ≤ length ts → each_line tally_in (length ps) (lines_words (lines_from ps ts) ++ rest) ≡ take (length ps) ts
  unfolding each_line lines_words lines_from source_words
  each_tally [] ts h = refl
  each_tally (p ∷ ps) [] h = absurd (omega arith)
  each_tally (p ∷ ps) (t ∷ ts) h = ap (λ (us : List Tally). t ∷ us) (each_tally ps ts (omega arith))

-- ---- a run reads back

module _ (run : Run) (ws : List ℕ) (room : 208 ≤ length ws) (good : run_fault run ≡ None) (fit : Lendable run) where
  abbrev t : Table
  t = run.table

  abbrev hs : List Place
  hs = held_of (lent t)

  abbrev lines : List Line
  lines = lines_of run

  abbrev stored : List ℕ
  stored = stored_lines ws run

  g : GoodRun run
  g = good_run run good

  whole : lent t ≡ t.places
  whole = ap (λ (n : ℕ). take n t.places) g.count ∙ take_all 16 t.places (omega (arith, fit.places))

  not_over : over t ≡ false
  not_over = le-ltb most_places t.count (omega (arith, g.count))

  k : Kept (lent t)
  unfolding fault_in
  k = kept (lent t) (sym (λ i. cond (not_over i) (Some Rules) (fault (lent t))) ∙ g.table)

  sounds : all (map sound_place hs) ≡ true
  sounds = k.sounds

  many : length lines ≡ length hs
  unfolding lines_of
  many = lines_long hs run.tallies

  most : length hs ≤ 16
  most = omega (arith, front_le (lent t), ap length whole, fit.places)

  front : stored ≡ lines_words lines ++ drop (length (lines_words lines)) ws
  front = sets-front ws (lines_words lines) (omega (arith, length-lines lines, many, most, room))

  the_places : each_line place_in (length lines) stored ≡ hs
  unfolding lines_of
  the_places =
      (λ i. each_line place_in (many i) (front i)) ∙ each_place (drop (length (lines_words lines)) ws) hs run.tallies sounds fit.fits

  the_tallies : each_line tally_in (length lines) stored ≡ take (length hs) run.tallies
  unfolding lines_of
  the_tallies = (λ i. each_line tally_in (many i) (front i)) ∙ each_tally (drop (length (lines_words lines)) ws) hs run.tallies (omega (arith, most, fit.tallies))

  they_fit : all (each_line line_fits (length lines) stored) ≡ true
  unfolding lines_of
  they_fit = (λ i. all (each_line line_fits (many i) (front i))) ∙ each_fits (drop (length (lines_words lines)) ws) hs run.tallies sounds fit.fits

  they_held : all (each_line is_held (length lines) stored) ≡ true
  they_held = ap all (each_map held place_in (length lines) stored ∙ ap (map held) the_places) ∙ all_held (lent t)

  rise : rising 0 (each_line place_in (length lines) stored) ≡ true
  rise = ap (rising 0) the_places ∙ kept_rises (lent t) k.ruled

  -- what is behind the held places is empty
  empties : rest_of (lent t) ≡ drop (length hs) (replicate 16 empty_place)
  empties =
      let n : length (rest_of (lent t)) ≡ 16 - length hs = omega (arith, simp length-append at (ap length (front_rest (lent t))), ap length whole, fit.places) in
      all_empty (rest_of (lent t)) (kept_empties (lent t) k.ruled) ∙ ap (λ (m : ℕ). replicate m empty_place) n ∙ sym (drop-same empty_place (length hs) 16)

  same_places : sets (replicate 16 empty_place) 0 hs ≡ t.places
  same_places =
      sets-eq hs (replicate 16 empty_place) 0 (omega (arith, most)) ∙ ap (λ (n : ℕ). hs ++ drop n (replicate 16 empty_place)) (zero-add (length hs))
      ∙ ap (λ (ps : List Place). hs ++ ps) (sym empties) ∙ front_rest (lent t) ∙ whole

  same_tallies : sets (replicate 16 no_tally) 0 (take (length hs) run.tallies) ≡ run.tallies
  same_tallies =
      let ts = take (length hs) run.tallies in
      let n : length ts ≡ length hs = omega (arith, length-take (length hs) run.tallies, most, fit.tallies) in
      sets-eq ts (replicate 16 no_tally) 0 (omega (arith, n, most)) ∙ ap (λ (m : ℕ). ts ++ drop m (replicate 16 no_tally)) (zero-add (length ts) ∙ n)
      ∙ ap (λ (us : List Tally). ts ++ us) (sym fit.rest) ∙ take-append-drop (length hs) run.tallies

  reads_back : loaded (run_words run) stored ≡ Ok run
  unfolding loaded words_fault run_of
  reads_back =
      let length-kept : length stored ≡ length ws = length-sets ws 0 (lines_words lines) in
      rw (le-leb 208 (length stored) (omega (arith, length-kept, room)), le-leb (length lines) most_places (omega (arith, many, most)), rise, they_held, form_fits run.form, they_fit)
      (λ i. Ok (record {
        form = form_back run.form i;
        length = run.length;
        table = record { places = (ap (sets (replicate 16 empty_place) 0) the_places ∙ same_places) i; count = sym g.count i };
        tallies = (ap (sets (replicate 16 no_tally) 0) the_tallies ∙ same_tallies) i;
      }))

pub stream_back : StreamBack
stream_back run ws room good fit = reads_back run ws room good fit

-- ---- words are those of their run

-- 13 words are those of their line
line_back : (ws : List ℕ) → 13 ≤ length ws → ((i : ℕ) → get_or ws i 0 < 2 ^ 64) → line_words (line_of (place_in ws) (tally_in ws)) ≡ take 13 ws
unfolding elements
line_back [] h bits = absurd (omega arith)
line_back (w ∷ ws) h bits =
    ap (λ (l : List ℕ). w ∷ l ++ (get_or ws 10 0 ∷ get_or ws 11 0 ∷ [])) (words_front ws (omega arith) (bits 1) (bits 2) ∙ elements_are ws 0 10 (omega arith))
    ∙ ap (λ (l : List ℕ). w ∷ l) (sym (elements_are ws 0 12 (omega arith)))

lines_back : (n : ℕ) (ws : List ℕ) (more : List Tally) → 13 * n ≤ length ws → ((i : ℕ) → get_or ws i 0 < 2 ^ 64)
    → lines_words (lines_from (each_line place_in n ws) (each_line tally_in n ws ++ more)) ++ drop (13 * n) ws ≡ ws
unfolding each_line lines_from lines_words
lines_back zero ws more h bits = refl
lines_back (suc n) ws more h bits =
    let rest = drop 13 ws in
    let behind : (i : ℕ) → get_or rest i 0 < 2 ^ 64 = λ i. rw (get_or-drop 13 ws i 0) (bits (13 + i)) in
    let All-words = lines_words (lines_from (each_line place_in n rest) (each_line tally_in n rest ++ more)) in
    let q : 13 * suc n ≡ 13 + 13 * n = omega arith in
    ap (λ (m : ℕ). (line_words (line_of (place_in ws) (tally_in ws)) ++ All-words) ++ drop m ws) q
    ∙ append_assoc (line_words (line_of (place_in ws) (tally_in ws))) All-words (drop (13 + 13 * n) ws)
    ∙ ap₂ (λ (x y : List ℕ). x ++ (All-words ++ y)) (line_back ws (omega arith) bits) (sym (drop-drop (13 * n) 13 ws))
    ∙ ap (λ (y : List ℕ). take 13 ws ++ y) (lines_back n rest more (omega (arith, length-drop 13 ws)) behind)
    ∙ take-append-drop 13 ws

held_front : (ps more : List Place) → all (map held ps) ≡ true → held_of more ≡ [] → held_of (ps ++ more) ≡ ps
unfolding held_of
held_front [] more e n = n
held_front (p ∷ ps) more e n =
    rw (and_left (held p) (all (map held ps)) e) (ap (λ (qs : List Place). p ∷ qs) (held_front ps more (and_right (held p) (all (map held ps)) e) n))

none_held : (n : ℕ) → held_of (replicate n empty_place) ≡ []
unfolding held_of
none_held zero = refl
none_held (suc n) = refl

rest_behind : (ps more : List Place) → all (map held ps) ≡ true → rest_of more ≡ more → rest_of (ps ++ more) ≡ more
unfolding rest_of
rest_behind [] more e n = n
rest_behind (p ∷ ps) more e n = rw (and_left (held p) (all (map held ps)) e) (rest_behind ps more (and_right (held p) (all (map held ps)) e) n)

none_rest : (n : ℕ) → rest_of (replicate n empty_place) ≡ replicate n empty_place
unfolding rest_of
none_rest zero = refl
none_rest (suc n) = refl

none_full : (n : ℕ) → all (map empty (replicate n empty_place)) ≡ true
unfolding fresh
none_full zero = refl
none_full (suc n) = none_full n

module _ (words ws : List ℕ) (s : Sound words ws) where
  abbrev n : ℕ
  n = held_in words

  abbrev qs : List Place
  qs = each_line place_in n ws

  its_places : sets (replicate 16 empty_place) 0 qs ≡ qs ++ replicate (16 - n) empty_place
  its_places =
      let m = length-each place_in n ws in
      sets-eq qs (replicate 16 empty_place) 0 (omega (arith, m, few words ws s.whole)) ∙ ap (λ (k : ℕ). qs ++ drop k (replicate 16 empty_place)) (zero-add (length qs) ∙ m)
      ∙ ap (λ (ps : List Place). qs ++ ps) (drop-same empty_place n 16)

  its_tallies : sets (replicate 16 no_tally) 0 (each_line tally_in n ws) ≡ each_line tally_in n ws ++ drop n (replicate 16 no_tally)
  its_tallies =
      let m = length-each tally_in n ws in
      sets-eq (each_line tally_in n ws) (replicate 16 no_tally) 0 (omega (arith, m, few words ws s.whole))
      ∙ ap (λ (k : ℕ). each_line tally_in n ws ++ drop k (replicate 16 no_tally)) (zero-add (length (each_line tally_in n ws)) ∙ m)

  helds : all (map held qs) ≡ true
  helds = sym (ap all (each_map held place_in n ws)) ∙ all_true (are_ruled n ws) 1 s.ruled

  its_lent : lent (run_of words ws).table ≡ qs ++ replicate (16 - n) empty_place
  unfolding run_of
  its_lent =
      let all_of : take 16 (sets (replicate 16 empty_place) 0 qs) ≡ sets (replicate 16 empty_place) 0 qs = take_all 16 _ (omega (arith, length-sets (replicate 16 empty_place) 0 qs)) in
      all_of ∙ its_places

  its_held : held_of (lent (run_of words ws).table) ≡ qs
  its_held = ap held_of its_lent ∙ held_front qs (replicate (16 - n) empty_place) helds (none_held (16 - n))

  its_rest : all (map empty (rest_of (lent (run_of words ws).table))) ≡ true
  its_rest =
      ap (λ (ps : List Place). all (map empty (rest_of ps))) its_lent
      ∙ ap (λ (ps : List Place). all (map empty ps)) (rest_behind qs (replicate (16 - n) empty_place) helds (none_rest (16 - n))) ∙ none_full (16 - n)

  its_length : length (lent (run_of words ws).table) ≤ 16
  unfolding run_of
  its_length = omega (arith, length-take 16 (run_of words ws).table.places)

  few_over : over (run_of words ws).table ≡ false
  unfolding run_of
  few_over = refl

  only_9 : fault_in (run_of words ws).table ≡ cond (not (all (map sound_place qs))) (Some Malformed) None
  unfolding fault_in fault
  only_9 =
      let ps = lent (run_of words ws).table in
      let rise = ap (rising 0) its_held ∙ all_true (are_ruled n ws) 0 s.ruled in
      rw (few_over, le-leb (length ps) most_places its_length, rise, its_rest) (λ i. cond (not (all (map sound_place (its_held i)))) (Some Malformed) None)

  tallies_are : (run_of words ws).tallies ≡ sets (replicate 16 no_tally) 0 (each_line tally_in n ws)
  unfolding run_of
  tallies_are = refl

  its_lines : lines_of (run_of words ws) ≡ lines_from qs (each_line tally_in n ws ++ drop n (replicate 16 no_tally))
  unfolding lines_of
  its_lines = ap₂ lines_from its_held (tallies_are ∙ its_tallies)

  its_number : length (lines_of (run_of words ws)) ≡ n
  its_number = ap length its_lines ∙ lines_long qs _ ∙ length-each place_in n ws

  run_words_lem : run_words (run_of words ws) ≡ words
  unfolding elements run_of
  run_words_lem =
      let three-words = three words ws s.whole in
      let form = form_word_lem (get_or words 0 0) (all_true (are_fit words ws) 0 s.fit) in
      ap₂ (λ (x y : ℕ). x ∷ get_or words 1 0 ∷ y ∷ []) form its_number ∙ sym (elements_are words 0 3 (omega (arith, three-words))) ∙ take_all 3 words (omega (arith, three-words))

  line_words_lem : ((i : ℕ) → get_or ws i 0 < 2 ^ 64) → stored_lines ws (run_of words ws) ≡ ws
  line_words_lem bits =
      let ls = lines_of (run_of words ws) in
      let size : length (lines_words ls) ≡ 13 * n = length-lines ls ∙ ap (λ (k : ℕ). 13 * k) its_number in
      let room : 13 * n ≤ length ws = enough words ws s.whole in
      sets-front ws (lines_words ls) (omega (arith, size, room))
      ∙ (λ i. lines_words (its_lines i) ++ drop (size i) ws) ∙ lines_back n ws (drop n (replicate 16 no_tally)) room bits

pub stream_words_back : StreamWordsBack
stream_words_back words ws run bits e =
    let f = taken words ws e in
    let s = none_sound words ws f.0 in
    (ap run_words f.1 ∙ run_words_lem words ws s, ap (stored_lines ws) f.1 ∙ line_words_lem words ws s bits)

pub taken_rules : TakenRules
taken_rules words ws e = only_9 words ws (none_sound words ws e)

-- ---- an SSRC that is taken has 32 bits

abbrev small : Place → Bool
small p = ltb p.ssrc (2 ^ 32)

each_small : (n : ℕ) (ws : List ℕ) → all (each_line line_fits n ws) ≡ true → all (map small (each_line place_in n ws)) ≡ true
unfolding each_line
each_small zero ws e = refl
each_small (suc n) ws e =
    let rest = drop 13 ws in
    let here = and_left (ltb (get_or ws 0 0) (2 ^ 32)) (leb (get_or ws 10 0) 65536) (and_left (line_fits ws) (all (each_line line_fits n rest)) e) in
    ap₂ (λ (a b : Bool). a && b) here (each_small n rest (and_right (line_fits ws) (all (each_line line_fits n rest)) e))

small_at : (ps : List Place) (m i : ℕ) → all (map small ps) ≡ true → (get_or (ps ++ replicate m empty_place) i empty_place).ssrc < 2 ^ 32
small_at [] zero i e = omega arith
small_at [] (suc m) zero e = omega arith
small_at [] (suc m) (suc i) e = small_at [] m i e
small_at (p ∷ ps) m zero e = ltb-true p.ssrc (2 ^ 32) (and_left (small p) (all (map small ps)) e)
small_at (p ∷ ps) m (suc i) e = small_at ps m i (and_right (small p) (all (map small ps)) e)

pub ssrc_fits : (words ws : List ℕ) → Sound words ws → (i : ℕ) → (get_or (run_of words ws).table.places i empty_place).ssrc < 2 ^ 32
unfolding run_of
ssrc_fits words ws s i =
    rw (its_places words ws s) (small_at (each_line place_in (held_in words) ws) (16 - held_in words) i (each_small (held_in words) ws (all_true (are_fit words ws) 1 s.fit)))
