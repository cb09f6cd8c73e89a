-- A block of a source that has a place is counted where that stands. Assumes nothing.
use Rattle.std.specs.Prelude.{Some, None}
use mathlib.Core.Path.{◌≡◌, refl, sym, ap, ◌∙◌}
use mathlib.Core.Bool.{Bool, true, false, cond, false≢true}
use mathlib.Core.List.{List, [], ◌∷◌, ◌++◌, map}
use Prim.Native.Nat.{ℕ, zero, suc, ◌+◌, ◌/◌, ◌≤◌, ◌<◌}
use native.Mathlib.Omega.{arith}
use borrow.Author.Tests.{lt-ltb, le-ltb, eq-eqb, ne_eqb}
use lib.Dec.{ltb, eqb}
use lib.ListN.{length, get_or, set, take, drop, length-set, drop_of_length-le}
use lib.Seq.{take_all, set-append_left}
use Rattle.answers.specs.Conditions.{all}
use Rattle.answers.specs.declared.Refusal.TheVariants.{Limits, Contents}
use Rattle.answers.proofs.Conditions.{and_left, and_right}
use Rattle.format.specs.Forms.{shape_of, width, same_form}
use Rattle.format.specs.declared.Form.{Form}
use Rattle.format.specs.declared.Form.TheVariants.{One, Two}
use Rattle.source.specs.declared.Source.{Source}
use Rattle.source.specs.declared.BlockCount.TheVariants.{Counted, Refused}
use Rattle.source.specs.Record.{sound}
use Rattle.source.specs.Blocks.{packets, count_all, block_count}
use Rattle.walk.specs.Steps.{goes, refuses}
use Rattle.sources.specs.declared.Place.{Place}
use Rattle.sources.specs.declared.Table.{Table}
use Rattle.sources.specs.declared.Counted.TheVariants as counted
use Rattle.sources.specs.declared.TableCounted.{TableCounted}
use Rattle.sources.specs.declared.runs.Tally.{Tally}
use Rattle.sources.specs.declared.runs.Run.{Run}
use Rattle.sources.specs.Places.{held, empty, empty_place, held_of, rest_of}
use Rattle.sources.specs.Rules.{most_places, rising, fault}
use Rattle.sources.specs.Stands.{stands_at, found, is_new, record_in, put, record_of, new_to, with_place}
use Rattle.sources.specs.Answers.{refusal, outside, count_answer, count_places}
use Rattle.sources.specs.Tables.{lent, over, counted_in}
use Rattle.sources.specs.Tallies.{no_tally, tallied}
use Rattle.sources.specs.Runs.{records_in, counted_by, counted_run, next_by, next_of}
use Rattle.sources.specs.Known.{IsRenewed}
use Rattle.sources.proofs.Held.{fresh_unheld}
use Rattle.sources.proofs.Fronts.{front_rest}
use Rattle.sources.proofs.Found.{rising_first, rising_rest}
use Rattle.sources.proofs.Checking.{Kept, kept, kept_rises, kept_empties, passed}
use Rattle.sources.proofs.Putting.{put_is}
use Rattle.sources.proofs.Behind.{record_sound}
use Rattle.sources.proofs.RunFaults.{GoodRun}

-- ---- a held place stands in front

none_held : (qs : List Place) (i : ℕ) → all (map empty qs) ≡ true → held (get_or qs i empty_place) ≡ false
none_held [] i e = refl
none_held (q ∷ qs) zero e = fresh_unheld q (and_right (eqb q.ssrc 0) _ (and_left (empty q) (all (map empty qs)) e))
none_held (q ∷ qs) (suc i) e = none_held qs i (and_right (empty q) (all (map empty qs)) e)

record InFront (ps : List Place) (i : ℕ) : Type 0 where
  inside : i < length (held_of ps)
  same : get_or (held_of ps) i empty_place ≡ get_or ps i empty_place

in_front_lem : (ps : List Place) (i : ℕ) → all (map empty (rest_of ps)) ≡ true → held (get_or ps i empty_place) ≡ true → InFront ps i
unfolding held_of rest_of
in_front_lem [] i e h = absurd (false≢true h)
in_front_lem (p ∷ ps) i e h = go (λ j. in_front_lem ps j) (held p) refl i e h
  where
    go : ((j : ℕ) → all (map empty (rest_of ps)) ≡ true → held (get_or ps j empty_place) ≡ true → InFront ps j)
        → (b : Bool) → held p ≡ b → (i : ℕ) → all (map empty (cond b (rest_of ps) (p ∷ ps))) ≡ true → held (get_or (p ∷ ps) i empty_place) ≡ true → InFront (p ∷ ps) i
    go more true hp zero e h = record { inside = rw hp (omega arith); same = rw hp }
    go more true hp (suc i) e h =
        let m = more i e h in
        let l = m.inside in
        record { inside = rw hp (omega arith); same = rw hp m.same }
    go more false hp i e h = absurd (false≢true (sym (none_held (p ∷ ps) i e) ∙ h))

-- ---- where an SSRC stands in rising places

not_below : (least : ℕ) (ps : List Place) (i : ℕ) → rising least ps ≡ true → i < length ps → least ≤ (get_or ps i empty_place).ssrc
not_below least [] i r h = absurd (omega arith)
not_below least (p ∷ ps) zero r h = rising_first least p ps r
not_below least (p ∷ ps) (suc i) r h =
    let a = rising_first least p ps r in
    let b = not_below (p.ssrc + 1) ps i (rising_rest least p ps r) (omega arith) in
    omega arith

record StandsThere (ps : List Place) (i : ℕ) : Type 0 where
  stands : stands_at (get_or ps i empty_place).ssrc ps ≡ i
  is : found (get_or ps i empty_place).ssrc ps ≡ Some (get_or ps i empty_place).source

stands_there : (least : ℕ) (ps : List Place) (i : ℕ) → rising least ps ≡ true → i < length ps → StandsThere ps i
unfolding stands_at found
stands_there least [] i r h = absurd (omega arith)
stands_there least (p ∷ ps) zero r h = record { stands = rw (le-ltb p.ssrc p.ssrc (omega arith)); is = rw (eq-eqb p.ssrc p.ssrc refl) }
stands_there least (p ∷ ps) (suc i) r h =
    let rest = rising_rest least p ps r in
    let more = stands_there (p.ssrc + 1) ps i rest (omega arith) in
    let above = not_below (p.ssrc + 1) ps i rest (omega arith) in
    let q = (get_or ps i empty_place).ssrc in
    record { stands = rw (lt-ltb p.ssrc q (omega arith), more.stands); is = rw (ne_eqb p.ssrc q (λ z. omega arith)) more.is }

-- ---- the table's call

-- a sound record whose block is counted: the block is within the limits
within : (s : Source) (w : ℕ) (bytes : List ℕ) {u : Source} {j r : ℕ} → sound s ≡ true → block_count s w bytes ≡ Counted u j r → outside w bytes ≡ false
unfolding block_count
within s w bytes {u} {j} {r} g e = go (outside w bytes) (rw g at e)
  where
    go : (b : Bool) → cond b (Refused Limits s) (count_all (packets w (length bytes / w) bytes) s 0 0) ≡ Counted u j r → b ≡ false
    go true e = let z : ◌≡◌ {A = ℕ} 0 1 = cc in absurd (omega arith)
    go false e = refl

module _ (ps : List Place) (good : fault ps ≡ None) (i : ℕ) (is : held (get_or ps i empty_place) ≡ true) where
  abbrev here : Place
  here = get_or ps i empty_place

  abbrev ssrc : ℕ
  ssrc = here.ssrc

  k : Kept ps
  k = kept ps good

  rises : rising 0 (held_of ps) ≡ true
  rises = kept_rises ps k.ruled

  front : InFront ps i
  front = in_front_lem ps i (kept_empties ps k.ruled) is

  there : StandsThere (held_of ps) i
  there = stands_there 0 (held_of ps) i rises front.inside

  stands : stands_at ssrc (held_of ps) ≡ i
  stands = ap (λ (p : Place). stands_at p.ssrc (held_of ps)) (sym front.same) ∙ there.stands

  is_found : found ssrc (held_of ps) ≡ Some here.source
  is_found = ap (λ (p : Place). found p.ssrc (held_of ps)) (sym front.same) ∙ there.is ∙ ap (λ (p : Place). Some p.source) front.same

  record_is : record_of ssrc ps ≡ here.source
  record_is = ap record_in is_found

  known : new_to ssrc ps ≡ false
  known = ap is_new is_found

  -- the place is renewed
  renewed : (place : Place) → place.ssrc ≡ ssrc → with_place place ps ≡ set ps i place
  unfolding with_place
  renewed place e =
      let put-here : put place (held_of ps) ≡ set (held_of ps) i place
      = put_is place 0 (held_of ps) rises
      ∙ (λ j. cond (is_new (found (e j) (held_of ps))) (take (stands_at (e j) (held_of ps)) (held_of ps) ++ place ∷ drop (stands_at (e j) (held_of ps)) (held_of ps)) (set (held_of ps) (stands_at (e j) (held_of ps)) place))
      ∙ (λ j. cond (known j) (take (stands j) (held_of ps) ++ place ∷ drop (stands j) (held_of ps)) (set (held_of ps) (stands j) place)) in
      ap (λ (qs : List Place). take (length ps) (qs ++ rest_of ps)) put-here
      ∙ ap (take (length ps)) (sym (set-append_left (held_of ps) (rest_of ps) i place front.inside) ∙ ap (λ (qs : List Place). set qs i place) (front_rest ps))
      ∙ take_all (length ps) (set ps i place) (rw (length-set ps i place) (omega arith))

  module _ (w : ℕ) (bytes : List ℕ) (source : Source) (jumps restarts : ℕ) (counts : block_count here.source w bytes ≡ Counted source jumps restarts) where
    sound_here : sound here.source ≡ true
    sound_here = ap sound (sym record_is) ∙ record_sound ssrc ps k

    free : refusal (outside w bytes) ssrc ps ≡ None
    unfolding refusal
    free = rw (good, within here.source w bytes sound_here counts, known)

    its_count : block_count (record_of ssrc ps) w bytes ≡ Counted source jumps restarts
    its_count = ap (λ (s : Source). block_count s w bytes) record_is ∙ counts

    pub places_here : count_places ps ssrc w bytes ≡ set ps i (record { ssrc = ssrc; source = source })
    unfolding count_places
    places_here = rw (free, its_count) (renewed (record { ssrc = ssrc; source = source }) refl)

    pub answer_here : count_answer ps ssrc w bytes ≡ counted.Block (record { at = i; new = false }) jumps restarts
    unfolding count_answer
    answer_here = rw (free, its_count, stands, known)

-- ---- the run

same_forms : (form : Form) → same_form form form ≡ true
same_forms One = refl
same_forms Two = refl

module _ (run : Run) (g : GoodRun run) (long : length run.table.places ≡ 16) where
  abbrev t : Table
  t = run.table

  pub not_over : over t ≡ false
  not_over = ap (ltb most_places) g.count

  pub all_lent : lent t ≡ t.places
  all_lent = take_all t.count t.places (omega (arith, long, g.count))

  pub none_beyond : drop t.count t.places ≡ []
  none_beyond = drop_of_length-le t.places {i = t.count} (omega (arith, long, g.count))

  pub table_good : fault (lent t) ≡ None
  table_good = (passed t _ (record { kept = g.table; count = refl })).kept

  places_good : fault t.places ≡ None
  places_good = ap fault (sym all_lent) ∙ table_good

  module _ (b : List ℕ) (i : ℕ) {place : Place} {tally : Tally} (r : IsRenewed run.form (get_or t.places i empty_place) (get_or run.tallies i no_tally) b place tally) where
    abbrev p : Place
    p = get_or t.places i empty_place

    abbrev next : Run
    next = record { form = run.form; length = run.length; table = record { places = set t.places i place; count = t.count }; tallies = set run.tallies i tally }

    place_is : place ≡ record { ssrc = p.ssrc; source = place.source }
    place_is = λ j. record { ssrc = r.counted.ssrc j; source = place.source }

    table_is : counted_in t p.ssrc (width (shape_of run.form)) (records_in run.form r.many b)
        ≡ record { table = next.table; answer = counted.Block (record { at = i; new = false }) r.counted.jumps r.counted.restarts }
    unfolding counted_in
    table_is =
        rw (not_over, all_lent, none_beyond, places_here t.places places_good i r.stands (width (shape_of run.form)) (records_in run.form r.many b) place.source r.counted.jumps r.counted.restarts r.counted.counts, answer_here t.places places_good i r.stands (width (shape_of run.form)) (records_in run.form r.many b) place.source r.counted.jumps r.counted.restarts r.counted.counts)
        (λ j. record { table = record { places = whole j; count = t.count }; answer = counted.Block (record { at = i; new = false }) r.counted.jumps r.counted.restarts })
      where
        whole : set t.places i (record { ssrc = p.ssrc; source = place.source }) ++ [] ≡ set t.places i place
        whole = append-none (set t.places i (record { ssrc = p.ssrc; source = place.source })) ∙ ap (set t.places i) (sym place_is)
          where
            append-none : (ps : List Place) → ps ++ [] ≡ ps
            append-none [] = refl
            append-none (q ∷ qs) = ap (λ (l : List Place). q ∷ l) (append-none qs)

    counted_here : counted_run run r.many p.ssrc b ≡ goes next
    unfolding counted_run tallied
    counted_here =
        ap (λ (u : TableCounted). counted_by run u.table u.answer) table_is
        ∙ ap (λ (u : Tally). goes (record { form = run.form; length = run.length; table = next.table; tallies = set run.tallies i u })) (sym r.counted.raises)

    pub renewed_here : next_of run b ≡ goes next
    unfolding next_of
    renewed_here =
        ap (next_by run b) r.is ∙ ap (λ (c : Bool). cond c (counted_run run r.many p.ssrc b) (refuses Contents)) (same_forms run.form) ∙ counted_here
