-- The run of ecnstreams over a table prints what the one over lines prints. Assumes nothing.
use Rattle.std.specs.Prelude.{Option, Some, None, Result, Ok, Err}
use mathlib.Core.Path.{◌≡◌, refl, sym, ap, ap₂, ◌∙◌}
use mathlib.Core.Bool.{Bool, true, false, cond, ◌&&◌}
use mathlib.Core.List.{List, [], ◌∷◌, ◌++◌, map}
use Prim.Native.Nat.{ℕ, zero, suc, ◌+◌, ◌-◌, ◌≤◌, ◌<◌}
use native.Mathlib.Omega.{arith}
use borrow.Author.Tests.{eqb-true, eqb-false, ltb-true, ltb-false, eq-eqb, ne_eqb}
use lib.Dec.{eqb, ltb}
use lib.ListN.{length, get_or, set, take, drop, length-set, length-take}
use lib.Seq.{take_all, take-take, take-append-le, take-suc-set, drop-set-lt, drop-cons, take_at, length-take-le}
use Rattle.numbers.proofs.BigEndian.{Octets}
use Rattle.numbers.proofs.Octets.{octets_drop}
use Rattle.source.specs.declared.Source.{Source}
use Rattle.source.specs.declared.Totals.{Totals}
use Rattle.answers.specs.declared.Refusal.{Refusal}
use Rattle.answers.specs.declared.Refusal.TheVariants.{Contents, Places}
use Rattle.format.specs.Blocks.{block_bytes, body_at}
use Rattle.format.specs.Forms.{shape_of, width, same_form}
use Rattle.format.specs.declared.Form.{Form}
use Rattle.format.proofs.Same.{same_form_lem}
use Rattle.source.specs.declared.BlockCount.{BlockCount}
use Rattle.source.specs.declared.BlockCount.TheVariants as block
use Rattle.source.specs.Record.{sound}
use Rattle.source.specs.Blocks.{block_count}
use Rattle.source.specs.Totals.{fresh_totals}
use Rattle.trace.specs.Layout.{body_of}
use Rattle.trace.specs.Reading.{block_of}
use Rattle.trace.specs.Theorems as traces
use Rattle.trace.specs.declared.Block.{Block}
use Rattle.trace.specs.declared.Block.TheVariants as read
use Rattle.table.specs.Lines.{head_bytes, refused_line}
use Rattle.answers.specs.Refusals.{number_of}
use Rattle.walk.proofs.Walks.{closed_goes}
use Rattle.walk.specs.Blocks.{blocks_of}
use Rattle.walk.specs.Programs.{both, to_output, turned, onward, walk, walked, closed, printed_by}
use Rattle.walk.specs.Steps.{Next, goes, refuses}
use Rattle.walk.proofs.Cuts.{Each}
use Rattle.walk.proofs.Pieces.{octets_blocks}
use Rattle.sources.specs.declared.Place.{Place}
use Rattle.sources.specs.declared.Table.{Table}
use Rattle.sources.specs.declared.runs.Run.{Run}
use Rattle.sources.specs.Answers.{full, refusal, outside, count_answer, count_places}
use Rattle.sources.specs.Tables.{lent, counted_in}
use Rattle.sources.specs.Runs.{empty_run, start_by, start_of, records_in, counted_run, next_by, next_of}
use Rattle.sources.specs.Streams as table
use Rattle.sources.proofs.Calling.{never_refused}
use Rattle.sources.proofs.Checking.{Kept, kept, kept_rises}
use Rattle.sources.proofs.Putting.{put_is}
use Rattle.sources.proofs.Loaded.{with_long}
use Rattle.sources.proofs.Behind.{record_sound, held_behind}
use Rattle.sources.proofs.Tallying.{length-tallied}
use Rattle.sources.proofs.HeldHere.{not_over, table_good}
use Rattle.sources.proofs.NextRuns.{Whole, next_whole, next_label, start_whole}
use Rattle.mixed.specs.Lines.{by_value}
use Rattle.mixed.specs.Witnesses.{trace as sources}
use Rattle.mixed.proofs.Witnesses.{met as sources-met}
use Rattle.mixed.specs.Blocks as mixed
use Rattle.demands.specs.PrintedTable.{in_record}
use Rattle.demands.specs.SameRun.{SameRun}
use Rattle.demands.proofs.Traces.{records_counted}
use Rattle.sources.specs.declared.runs.Tally.{Tally}
use Rattle.sources.specs.Places.{held_of}
use Rattle.sources.specs.Rules.{rising}
use Rattle.sources.specs.Stands.{stands_at, found, is_new, record_in, put, record_of, new_to, with_place}
use Rattle.sources.specs.Tallies.{no_tally, raised, shifted, tallied}
use Rattle.sources.specs.Rows as rows
use Rattle.sources.proofs.Found.{rising_rest, below_none}
use Rattle.sources.proofs.Fronts.{front_le}
use Rattle.mixed.specs.declared.Line.{Line}
use Rattle.mixed.specs.Places.{found_by, renewed_by, added_by}
use Rattle.mixed.specs.Tables as lines
use Rattle.demands.proofs.AsPlaces.{ssrc_of, Counts, counts}

-- ---- places with their tallies, as lines

abbrev as_line : Place → Tally → Line
as_line p t = record { ssrc = p.ssrc; totals = record { source = p.source; jumped = t.jumped; restarts = t.restarts } }

unfoldable lines_of : List Place → List Tally → List Line
lines_of [] ts = []
lines_of (p ∷ ps) ts = as_line p (get_or ts 0 no_tally) ∷ lines_of ps (drop 1 ts)

lines_long : (ps : List Place) (ts : List Tally) → length (lines_of ps ts) ≡ length ps
unfolding lines_of
lines_long [] ts = refl
lines_long (p ∷ ps) ts = ap suc (lines_long ps (drop 1 ts))

rows_same : (label : List ℕ) (ps : List Place) (ts : List Tally) → rows.rows_of label (rows.lines_from ps ts) ≡ lines.rows_of label (lines_of ps ts)
unfolding lines_of rows.rows_of rows.lines_from lines.rows_of
rows_same label [] ts = refl
rows_same label (p ∷ ps) ts = ap (λ (rest : List ℕ). rows.row_in label (rows.line_of p (get_or ts 0 no_tally)) ++ rest) (rows_same label ps (drop 1 ts))

-- only as many tallies are read
lines_take : (m : ℕ) (ps : List Place) (ts : List Tally) → length ps ≤ m → lines_of ps (take m ts) ≡ lines_of ps ts
unfolding lines_of
lines_take m [] ts h = refl
lines_take zero (p ∷ ps) ts h = absurd (omega arith)
lines_take (suc m) (p ∷ ps) [] h = refl
lines_take (suc m) (p ∷ ps) (t ∷ ts) h = ap (λ (ls : List Line). as_line p t ∷ ls) (lines_take m ps ts (omega arith))

-- ---- one that has a place

record Known (ssrc : ℕ) (ps : List Place) (ts : List Tally) (s : Source) : Type 0 where
  is : found_by ssrc_of ssrc (lines_of ps ts) ≡ Some (as_line (record { ssrc = ssrc; source = s }) (get_or ts (stands_at ssrc ps) no_tally))
  renews : (u : Source) (t : Tally) → lines_of (set ps (stands_at ssrc ps) (record { ssrc = ssrc; source = u })) (set ts (stands_at ssrc ps) t)
      ≡ renewed_by ssrc_of (as_line (record { ssrc = ssrc; source = u }) t) (lines_of ps ts)

same_source : {a b : Source} → ◌≡◌ {A = Option Source} (Some a) (Some b) → a ≡ b
same_source e = cc

nothing : {A : Type 0} {a : Source} → ◌≡◌ {A = Option Source} None (Some a) → A
nothing e = let z : ◌≡◌ {A = ℕ} 0 1 = cc in absurd (omega arith)

known : (ssrc least : ℕ) (ps : List Place) (ts : List Tally) (s : Source) → rising least ps ≡ true → length ps ≤ length ts → found ssrc ps ≡ Some s → Known ssrc ps ts s
unfolding lines_of found found_by renewed_by stands_at
known ssrc least [] ts s r h f = nothing f
known ssrc least (p ∷ ps) [] s r h f = absurd (omega arith)
known ssrc least (p ∷ ps) (v ∷ ts) s r h f =
    go (λ g. known ssrc (p.ssrc + 1) ps ts s (rising_rest least p ps r) (omega arith) g) (eqb p.ssrc ssrc) refl (ltb p.ssrc ssrc) refl f
  where
    go : (found ssrc ps ≡ Some s → Known ssrc ps ts s) → (e : Bool) → eqb p.ssrc ssrc ≡ e → (l : Bool) → ltb p.ssrc ssrc ≡ l
        → cond e (Some p.source) (found ssrc ps) ≡ Some s → Known ssrc (p ∷ ps) (v ∷ ts) s
    go more true he true hl f = absurd (let x = eqb-true p.ssrc ssrc he in let y = ltb-true p.ssrc ssrc hl in omega arith)
    go more true he false hl f =
        let x = eqb-true p.ssrc ssrc he in
        let y = same_source f in
        record {
          is = rw (he, hl) (λ i. Some (as_line (record { ssrc = x i; source = y i }) v));
          renews = λ u t. rw (he, hl);
        }
    go more false he true hl f =
        let m = more f in
        record {
          is = rw (he, hl) m.is;
          renews = λ u t. rw (he, hl) (ap (λ (ls : List Line). as_line p v ∷ ls) (m.renews u t));
        }
    go more false he false hl f =
        let x = ltb-false p.ssrc ssrc hl in
        let y = eqb-false p.ssrc ssrc he in
        nothing (sym (below_none ssrc (p.ssrc + 1) ps (let z = apart p.ssrc ssrc x y in omega arith) (rising_rest least p ps r)) ∙ f)
      where
        apart : (a b : ℕ) → b ≤ a → (a ≡ b → ⊥) → b < a
        apart a b h n = test (ltb b a) refl
          where
            test : (t : Bool) → ltb b a ≡ t → b < a
            test true e = ltb-true b a e
            test false e = absurd (n (let g = ltb-false b a e in omega arith))

-- ---- a new one

record New (ssrc : ℕ) (ps : List Place) (ts : List Tally) : Type 0 where
  is : found_by ssrc_of ssrc (lines_of ps ts) ≡ None
  adds : (u : Source) (t : Tally) → let at = stands_at ssrc ps in
      lines_of (take at ps ++ record { ssrc = ssrc; source = u } ∷ drop at ps) (take at ts ++ t ∷ drop at ts) ≡ added_by ssrc_of (as_line (record { ssrc = ssrc; source = u }) t) (lines_of ps ts)
  within : stands_at ssrc ps ≤ length ps

nobody : {A : Type 0} {a : Source} → ◌≡◌ {A = Option Source} (Some a) None → A
nobody e = let z : ◌≡◌ {A = ℕ} 0 1 = cc in absurd (omega arith)

new : (ssrc : ℕ) (ps : List Place) (ts : List Tally) → length ps ≤ length ts → found ssrc ps ≡ None → New ssrc ps ts
unfolding lines_of found found_by added_by stands_at
new ssrc [] ts h f = record { is = refl; adds = λ u t. refl; within = omega arith }
new ssrc (p ∷ ps) [] h f = absurd (omega arith)
new ssrc (p ∷ ps) (v ∷ ts) h f = go (λ g. new ssrc ps ts (omega arith) g) (eqb p.ssrc ssrc) refl (ltb p.ssrc ssrc) refl f
  where
    go : (found ssrc ps ≡ None → New ssrc ps ts) → (e : Bool) → eqb p.ssrc ssrc ≡ e → (l : Bool) → ltb p.ssrc ssrc ≡ l
        → cond e (Some p.source) (found ssrc ps) ≡ None → New ssrc (p ∷ ps) (v ∷ ts)
    go more true he l hl f = nobody f
    go more false he true hl f =
        let m = more f in
        let w = m.within in
        record { is = rw he m.is; adds = λ u t. rw hl (ap (λ (ls : List Line). as_line p v ∷ ls) (m.adds u t)); within = rw hl (omega arith) }
    go more false he false hl f = record { is = rw he (more f).is; adds = λ u t. rw hl; within = rw hl (omega arith) }

-- ---- tallies that move on by one

shifted_all : (i k : ℕ) (t : Tally) (ts : List Tally) → i + k ≡ length ts → shifted i k t ts ≡ take (length ts) (take i ts ++ t ∷ drop i ts)
unfolding shifted
shifted_all i zero t ts h =
    sym (take-append-le (length ts) (take i ts) (t ∷ drop i ts) (simp length-take (omega arith)) ∙ take-take (length ts) i ts (omega arith) ∙ take_all (length ts) ts (omega arith))
shifted_all i (suc k) t ts h =
    let l : i < length ts = omega arith in
    shifted_all (suc i) k (get_or ts i no_tally) (set ts i t) (rw (length-set ts i t) (omega arith))
    ∙ rw (length-set ts i t, take-suc-set ts i t l, drop-set-lt (suc i) ts i t (omega arith), ← drop-cons ts i no_tally l)
    (ap (take (length ts)) (snoc (take i ts)))
  where
    snoc : (us : List Tally) → (us ++ (t ∷ [])) ++ drop i ts ≡ us ++ t ∷ drop i ts
    snoc [] = refl
    snoc (u ∷ us) = ap (λ (rs : List Tally). u ∷ rs) (snoc us)

-- a place more
put_long : (at : ℕ) (ps : List Place) (p : Place) → length ps < 16 → length (take at ps ++ p ∷ drop at ps) ≤ 16
put_long zero ps p h = omega arith
put_long (suc at) [] p h = omega arith
put_long (suc at) (q ∷ ps) p h = let m = shorter at ps p in omega arith
  where
    shorter : (at : ℕ) (ps : List Place) (p : Place) → length (take at ps ++ p ∷ drop at ps) ≡ suc (length ps)
    shorter zero ps p = refl
    shorter (suc at) [] p = refl
    shorter (suc at) (q ∷ ps) p = ap suc (shorter at ps p)

-- ---- what a block does to both

abbrev Alike : Next Run → Next (List Line) → Type 0
Alike (goes next) (goes ls) = (ls ≡ lines_of (held_of (lent next.table)) next.tallies) × (length next.tallies ≡ 16)
Alike (refuses r) (refuses q) = r ≡ q
Alike (goes next) (refuses q) = ⊥
Alike (refuses r) (goes ls) = ⊥

module _ (run : Run) (w : Whole run) (tall : length run.tallies ≡ 16) (b : List ℕ) (n ssrc : ℕ) (is : block_of b ≡ Ok (read.Arrivals run.form n ssrc)) where
  abbrev t : Table
  t = run.table

  abbrev ps : List Place
  ps = lent t

  abbrev hs : List Place
  hs = held_of ps

  abbrev ts : List Tally
  ts = run.tallies

  abbrev wide : ℕ
  wide = width (shape_of run.form)

  abbrev bytes : List ℕ
  bytes = records_in run.form n b

  good : Kept ps
  good = kept ps (table_good run w.good w.long)

  rises : rising 0 hs ≡ true
  rises = kept_rises ps good.ruled

  its_sound : sound (record_of ssrc ps) ≡ true
  its_sound = record_sound ssrc ps good

  ps_long : length ps ≡ 16
  ps_long = length-take-le t.count t.places (omega (arith, w.long, w.good.count)) ∙ w.good.count

  few : length hs ≤ 16
  few = omega (arith, front_le ps, ps_long)

  module _ (u : Source) (j q : ℕ) (counted : block_count (record_of ssrc ps) wide bytes ≡ block.Counted u j q) where
    abbrev place : Place
    place = record { ssrc = ssrc; source = u }

    abbrev totals : Totals
    totals = record { source = record_of ssrc ps; jumped = 0; restarts = 0 }

    c : Counts b run.form n ssrc is totals
    c = counts b run.form n ssrc is totals its_sound

    abbrev next : Run
    next = record {
      form = run.form;
      length = run.length;
      table = record { places = with_place place ps ++ drop t.count t.places; count = t.count };
      tallies = tallied (record { at = stands_at ssrc hs; new = new_to ssrc ps }) j q ts;
    }

    no_refusal : (new_to ssrc ps && full ps) ≡ false → refusal (outside wide bytes) ssrc ps ≡ None
    unfolding refusal
    no_refusal r = rw (table_good run w.good w.long, c.inside, r)

    all_held : (new_to ssrc ps && full ps) ≡ true → refusal (outside wide bytes) ssrc ps ≡ Some Places
    unfolding refusal
    all_held r = rw (table_good run w.good w.long, c.inside, r)

    it_goes : (new_to ssrc ps && full ps) ≡ false → counted_run run n ssrc b ≡ goes next
    unfolding counted_run counted_in count_answer count_places
    it_goes r = rw (not_over run w.good w.long, no_refusal r, counted)

    it_ends : (new_to ssrc ps && full ps) ≡ true → counted_run run n ssrc b ≡ refuses Places
    unfolding counted_run counted_in count_answer count_places
    it_ends r = rw (not_over run w.good w.long, all_held r)

    held_next : (new_to ssrc ps && full ps) ≡ false → held_of (lent next.table) ≡ put place hs
    held_next r =
        ap held_of (take_at (with_place place ps) (drop t.count t.places) t.count (with_long place ps ∙ ps_long ∙ sym w.good.count))
        ∙ held_behind ssrc ps u good (rw counted at c.grown) r

    put_at_lem : put place hs ≡ cond (is_new (found ssrc hs)) (take (stands_at ssrc hs) hs ++ place ∷ drop (stands_at ssrc hs) hs) (set hs (stands_at ssrc hs) place)
    put_at_lem = put_is place 0 hs rises

    tall_next : length next.tallies ≡ 16
    tall_next = length-tallied (record { at = stands_at ssrc hs; new = new_to ssrc ps }) j q ts ∙ tall

    abbrev count : Totals → Totals
    count = mixed.counted run.form n b

    -- its line, if it has one
    alike_known : (s : Source) → found ssrc hs ≡ Some s → Alike (counted_run run n ssrc b) (mixed.settled by_value count ssrc (lines_of hs ts))
    unfolding mixed.settled mixed.counted tallied
    alike_known s f =
        let k = known ssrc 0 hs ts s rises (omega (arith, few, tall)) f in
        let not_new : new_to ssrc ps ≡ false = ap is_new f in
        let room : (new_to ssrc ps && full ps) ≡ false = rw not_new in
        let same : record_of ssrc ps ≡ s = ap record_in f in
        let here : block_count s wide bytes ≡ block.Counted u j q = ap (λ (v : Source). block_count v wide bytes) (sym same) ∙ counted in
        let old = get_or ts (stands_at ssrc hs) no_tally in
        rw (it_goes room, k.is, here) (
          sym (k.renews u (raised old j q))
              ∙ (λ i. lines_of (sym (held_next room ∙ put_at_lem ∙ ap (λ (x : Bool). cond x (take (stands_at ssrc hs) hs ++ place ∷ drop (stands_at ssrc hs) hs) (set hs (stands_at ssrc hs) place)) not_new) i)
              (cond (sym not_new i) (shifted (stands_at ssrc hs) (16 - stands_at ssrc hs) (raised no_tally j q) ts) (set ts (stands_at ssrc hs) (raised old j q)))),
          tall_next,
        )

    alike_new : found ssrc hs ≡ None → Alike (counted_run run n ssrc b) (mixed.settled by_value count ssrc (lines_of hs ts))
    unfolding mixed.settled mixed.counted tallied
    alike_new f = go (ltb (length hs) 16) refl
      where
        k : New ssrc hs ts
        k = new ssrc hs ts (omega (arith, few, tall)) f

        is_new_lem : new_to ssrc ps ≡ true
        is_new_lem = ap is_new f

        here : block_count fresh_totals.source wide bytes ≡ block.Counted u j q
        here = ap (λ (v : Source). block_count v wide bytes) (sym (ap record_in f)) ∙ counted

        go : (l : Bool) → ltb (length hs) 16 ≡ l → Alike (counted_run run n ssrc b) (mixed.settled by_value count ssrc (lines_of hs ts))
        go true e =
            let at = stands_at ssrc hs in
            let less = ltb-true (length hs) 16 e in
            let room : (new_to ssrc ps && full ps) ≡ false = rw (is_new_lem, ne_eqb (length hs) (length ps) (λ z. omega (arith, ps_long))) in
            let within = k.within in
            let moved : shifted at (16 - at) (raised no_tally j q) ts ≡ take 16 (take at ts ++ raised no_tally j q ∷ drop at ts)
            = shifted_all at (16 - at) (raised no_tally j q) ts (omega (arith, tall, few)) ∙ ap (λ (m : ℕ). take m (take at ts ++ raised no_tally j q ∷ drop at ts)) tall in
            let hs-next = held_next room ∙ put_at_lem ∙ ap (λ (x : Bool). cond x (take at hs ++ place ∷ drop at hs) (set hs at place)) is_new_lem in
            let longer : length (take at hs ++ place ∷ drop at hs) ≤ 16 = put_long at hs place (omega arith) in
            rw (it_goes room, k.is, lines_long hs ts, e, here) (
              sym (k.adds u (raised no_tally j q)) ∙ sym (lines_take 16 (take at hs ++ place ∷ drop at hs) (take at ts ++ raised no_tally j q ∷ drop at ts) longer)
                  ∙ (λ i. lines_of (sym hs-next i) (cond (sym is_new_lem i) (sym moved i) (set ts at (raised (get_or ts at no_tally) j q)))),
              tall_next,
            )
        go false e =
            let more = ltb-false (length hs) 16 e in
            let none_left : (new_to ssrc ps && full ps) ≡ true = rw (is_new_lem, eq-eqb (length hs) (length ps) (omega (arith, ps_long, few))) in
            rw (it_ends none_left, k.is, lines_long hs ts, e)

  settled_alike : Alike (counted_run run n ssrc b) (mixed.settled by_value (mixed.counted run.form n b) ssrc (lines_of hs ts))
  settled_alike = by_count (block_count (record_of ssrc ps) wide bytes) refl
    where
      by_found : (u : Source) (j q : ℕ) → block_count (record_of ssrc ps) wide bytes ≡ block.Counted u j q → (f : Option Source) → found ssrc hs ≡ f
          → Alike (counted_run run n ssrc b) (mixed.settled by_value (mixed.counted run.form n b) ssrc (lines_of hs ts))
      by_found u j q c None e = alike_new u j q c e
      by_found u j q c (Some s) e = alike_known u j q c s e

      by_count : (r : BlockCount) → block_count (record_of ssrc ps) wide bytes ≡ r → Alike (counted_run run n ssrc b) (mixed.settled by_value (mixed.counted run.form n b) ssrc (lines_of hs ts))
      by_count (block.Counted u j q) e = by_found u j q e (found ssrc hs) refl
      by_count (block.Refused r s) e =
          absurd (never_refused (map in_record (traces.records_in (shape_of run.form) n (body_of b))) (record_of ssrc ps) 0 0 (sym (records_counted b run.form n ssrc is (record_of ssrc ps) its_sound) ∙ e))

next_alike : (run : Run) → Whole run → length run.tallies ≡ 16 → (b : List ℕ)
    → Alike (next_of run b) (mixed.next_of by_value run.form b (lines_of (held_of (lent run.table)) run.tallies))
unfolding next_of mixed.next_of
next_alike run w tall b = go (block_of b) refl
  where
    chosen : (c : Bool) (form : Form) (n ssrc : ℕ) → same_form form run.form ≡ c → block_of b ≡ Ok (read.Arrivals form n ssrc)
        → Alike (cond c (counted_run run n ssrc b) (refuses Contents)) (cond c (mixed.settled by_value (mixed.counted run.form n b) ssrc (lines_of (held_of (lent run.table)) run.tallies)) (refuses Contents))
    chosen true form n ssrc q is = settled_alike run w tall b n ssrc (is ∙ ap (λ (f : Form). Ok (read.Arrivals f n ssrc)) (same_form_lem form run.form q))
    chosen false form n ssrc q is = refl

    go : (r : Result Block Refusal) → block_of b ≡ r → Alike (next_by run b r) (mixed.next_by by_value run.form b (lines_of (held_of (lent run.table)) run.tallies) r)
    go (Ok (read.Arrivals form n ssrc)) is = chosen (same_form form run.form) form n ssrc refl is
    go (Ok (read.Label form n ssrc)) is = refl
    go (Err refusal) is = refl

-- ---- over all blocks

record Holds (k : table.Kept) (m : lines.Kept) : Type 0 where
  form : m.form ≡ k.run.form
  label : m.label ≡ rows.label_of k.run k.zeroth
  are : m.lines ≡ lines_of (held_of (lent k.run.table)) k.run.tallies
  whole : Whole k.run
  tall : length k.run.tallies ≡ 16

alike_held : (k : table.Kept) (m : lines.Kept) → Holds k m → (b : List ℕ) → Alike (next_of k.run b) (mixed.next_of by_value m.form b m.lines)
alike_held k m h b = rw (h.form, h.are) (next_alike k.run h.whole h.tall b)

walk_same : (i : ℕ) (bs : List (List ℕ)) (k : table.Kept) (m : lines.Kept) → Each Octets bs → Holds k m
    → closed table.ecnstreams (walk table.ecnstreams i bs k) ≡ closed lines.ecnstreams (walk lines.ecnstreams i bs m)
unfolding walk onward closed rows.lines_of
walk_same i [] k m o h = ap to_output (rows_same (rows.label_of k.run k.zeroth) (held_of (lent k.run.table)) k.run.tallies ∙ sym (ap₂ lines.rows_of h.label h.are))
walk_same i (b ∷ bs) k m o h =
    go (next_of k.run b) refl (mixed.next_of by_value m.form b m.lines) (alike_held k m h b) (λ k m h. walk_same (suc i) bs k m o.1 h)
  where
    go : (x : Next Run) → next_of k.run b ≡ x → (y : Next (List Line)) → Alike x y
        → ((k : table.Kept) (m : lines.Kept) → Holds k m → closed table.ecnstreams (walk table.ecnstreams (suc i) bs k) ≡ closed lines.ecnstreams (walk lines.ecnstreams (suc i) bs m))
        → closed table.ecnstreams (onward (turned i (table.taken k x)) (walk table.ecnstreams (suc i) bs)) ≡ closed lines.ecnstreams (onward (turned i (lines.taken m y)) (walk lines.ecnstreams (suc i) bs))
    go (goes next) e (goes ls) a later =
        let same = next_label k.run b next e in
        later (record { run = next; zeroth = k.zeroth }) (record { form = m.form; label = m.label; lines = ls })
        (record {
          form = h.form ∙ sym same.forms;
          label = h.label ∙ ap (λ (n : ℕ). take n (drop body_at k.zeroth)) (sym same.lengths);
          are = a.0;
          whole = next_whole k.run b next o.0 h.whole e;
          tall = a.1;
        })
    go (refuses r) e (refuses q) a later = ap (λ (x : Refusal). to_output (refused_line (number_of x) i)) a
    go (goes next) e (refuses q) a later = absurd a
    go (refuses r) e (goes ls) a later = absurd a

empty_holds : (zeroth : List ℕ) (form : Form) (n : ℕ) → Whole (empty_run form n)
    → Holds (record { run = empty_run form n; zeroth = zeroth }) (record { form = form; label = take n (drop body_at zeroth); lines = [] })
unfolding lines_of held_of
empty_holds zeroth form n w = record { form = refl; label = refl; are = refl; whole = w; tall = refl }

pub same_run : SameRun
unfolding table.printed lines.printed printed_by walked start_of closed onward
same_run trace o = go (block_of (blocks_of trace).zeroth) refl
  where
    go : (r : Result Block Refusal) → block_of (blocks_of trace).zeroth ≡ r
        → closed table.ecnstreams (onward (turned 0 (table.begun (blocks_of trace).zeroth (start_by r))) (walk table.ecnstreams 1 (blocks_of trace).others)) ≡ closed lines.ecnstreams (onward (turned 0 (lines.begun_by (blocks_of trace).zeroth r)) (walk lines.ecnstreams 1 (blocks_of trace).others))
    go (Ok (read.Label form n ssrc)) e =
        let k : table.Kept = record { run = empty_run form n; zeroth = (blocks_of trace).zeroth } in
        let m : lines.Kept = record { form = form; label = take n (drop body_at (blocks_of trace).zeroth); lines = [] } in
        closed_goes table.ecnstreams (turned 0 (table.begun (blocks_of trace).zeroth (start_by (Ok (read.Label form n ssrc))))) (walk table.ecnstreams 1 (blocks_of trace).others) refl
        ∙ ap (both (to_output head_bytes)) (walk_same 1 (blocks_of trace).others k m (octets_blocks trace (octets_drop block_bytes trace o)) (empty_holds (blocks_of trace).zeroth form n (start_whole (blocks_of trace).zeroth e)))
        ∙ sym (closed_goes lines.ecnstreams (turned 0 (lines.begun_by (blocks_of trace).zeroth (Ok (read.Label form n ssrc)))) (walk lines.ecnstreams 1 (blocks_of trace).others) refl)
    go (Ok (read.Arrivals form n ssrc)) e = refl
    go (Err refusal) e = refl

-- the hypotheses are met
used : Unit {0}
used = let same = same_run sources sources-met.bytes in tt
