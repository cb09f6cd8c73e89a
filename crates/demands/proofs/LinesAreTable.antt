-- The lines of ecnstreams are the held places of a table. Assumes nothing.
use Rattle.std.specs.Prelude.{Option, Some, None, Result, Ok, Err}
use Rattle.answers.specs.declared.Refusal.{Refusal}
use mathlib.Core.Path.{◌≡◌, refl, sym, ap, ◌∙◌, subst}
use mathlib.Core.Bool.{Bool, true, false, cond, ◌&&◌}
use mathlib.Core.List.{List, [], ◌∷◌, map}
use Prim.Native.Nat.{ℕ, suc, ◌*◌}
use native.Mathlib.Omega.{arith}
use borrow.Author.Tests.{ltb-true, ne_eqb}
use lib.Dec.{ltb}
use lib.ListN.{length, take, drop, replicate, length-map}
use Rattle.answers.specs.declared.Refusal.TheVariants.{Contents, Places}
use Rattle.numbers.proofs.BigEndian.{Octets}
use Rattle.format.specs.Blocks.{body_at}
use Rattle.format.specs.Forms.{shape_of, width, same_form}
use Rattle.format.specs.declared.Form.{Form}
use Rattle.format.proofs.Same.{same_form_lem}
use Rattle.source.specs.declared.Totals.{Totals}
use Rattle.source.specs.Record.{fresh}
use Rattle.source.specs.Totals.{fresh_totals}
use Rattle.trace.specs.Reading.{block_of}
use Rattle.trace.specs.declared.Block.{Block}
use Rattle.trace.specs.declared.Block.TheVariants as read
use Rattle.numbers.proofs.Octets.{octets_take, octets_drop}
use Rattle.walk.specs.Blocks.{blocks_of}
use Rattle.walk.specs.Programs.{Run, turned, onward, walk, walked}
use Rattle.walk.specs.Steps.{Next, goes, refuses}
use Rattle.walk.proofs.Cuts.{Each}
use Rattle.walk.proofs.Pieces.{octets_blocks}
use Rattle.sources.specs.declared.Place.{Place}
use Rattle.sources.specs.Places.{empty_place, held_of, rest_of}
use Rattle.sources.specs.Rules.{rising, fault}
use Rattle.sources.specs.Stands.{found, record_in, put, record_of, new_to, with_place}
use Rattle.sources.specs.Answers.{full, refusal, count_places}
use Rattle.sources.proofs.Checking.{Kept, kept, kept_rises, fault_none}
use Rattle.sources.proofs.Loaded.{with_long}
use Rattle.sources.proofs.Behind.{record_sound, held_behind, block_keeps_rules}
use Rattle.mixed.specs.declared.Line.{Line}
use Rattle.mixed.specs.Places.{found_by, renewed_by, added_by}
use Rattle.mixed.specs.Lines.{by_value}
use Rattle.mixed.specs.Blocks.{counted, settled_by, settled, next_by, next_of}
use Rattle.mixed.specs.Witnesses.{trace as sources}
use Rattle.mixed.specs.Tables.{Kept as State, begun_by, taken, ecnstreams}
use Rattle.demands.specs.LinesAreTable.{place_of, table_by, table_behind, LinesAreTable}
use Rattle.mixed.proofs.Witnesses.{met as sources-met}
use Rattle.demands.proofs.Witnesses.{met}
use Rattle.demands.proofs.AsPlaces.{ssrc_of, source_in, found_as_lem, put_added, put_renewed, w, bytes, Counts, counts}

-- ---- a table beside the lines

record Same (ps : List Place) (ls : List Line) : Type 0 where
  good : Kept ps
  long : length ps ≡ 16
  are : held_of ps ≡ map place_of ls

module _ (ps : List Place) (ls : List Line) (s : Same ps ls) (b : List ℕ) (form : Form) (n ssrc : ℕ) (is : block_of b ≡ Ok (read.Arrivals form n ssrc)) (o : Octets b) where
  no_fault : fault ps ≡ None
  no_fault = fault_none ps s.good.ruled s.good.sounds

  found_here : {l : Option Line} → found_by ssrc_of ssrc ls ≡ l → found ssrc (held_of ps) ≡ source_in l
  found_here e = ap (found ssrc) s.are ∙ found_as_lem ssrc ls ∙ ap source_in e

  -- the totals `t` of its SSRC, counted, are put in
  module _ (t : Totals) (its : record_of ssrc ps ≡ t.source) (room : (new_to ssrc ps && full ps) ≡ false) where
    new : Line
    new = record { ssrc = ssrc; totals = counted form n b t }

    c : Counts b form n ssrc is t
    c = counts b form n ssrc is t (rw its at (record_sound ssrc ps s.good))

    placed : count_places ps ssrc (w b form n ssrc is) (bytes b form n ssrc is) ≡ with_place (place_of new) ps
    unfolding count_places refusal new
    placed = rw (no_fault, c.inside, room, its, ← c.same)

    still_same : (next : List Line) → put (place_of new) (map place_of ls) ≡ map place_of next → Same (count_places ps ssrc (w b form n ssrc is) (bytes b form n ssrc is)) next
    unfolding new
    still_same next e = record {
      good = kept _ (block_keeps_rules ps ssrc _ _ (octets_take (n * width (shape_of form)) (drop body_at b) (octets_drop body_at b o)) no_fault);
      long = ap length placed ∙ with_long (place_of new) ps ∙ s.long;
      are =
          ap held_of placed ∙ held_behind ssrc ps (counted form n b t).source s.good (rw c.same c.grown) room
          ∙ ap (put (place_of new)) s.are ∙ e;
    }

-- ---- what a block does to both

abbrev Follows : List Place → Next (List Line) → Type 0
Follows ps (goes ls) = Same ps ls
Follows ps (refuses refusal) = Unit {0}

module _ (ps : List Place) (ls : List Line) (s : Same ps ls) (b : List ℕ) (o : Octets b) where
  settled_follows : (form : Form) (n ssrc : ℕ) → block_of b ≡ Ok (read.Arrivals form n ssrc)
      → Follows (count_places ps ssrc (width (shape_of form)) (take (n * width (shape_of form)) (drop body_at b))) (settled by_value (counted form n b) ssrc ls)
  unfolding settled new
  settled_follows form n ssrc is = go (found_by ssrc_of ssrc ls) refl
    where
      after_block : List Place
      after_block = count_places ps ssrc (width (shape_of form)) (take (n * width (shape_of form)) (drop body_at b))

      with_room : (t : Bool) → ltb (length ls) 16 ≡ t → found_by ssrc_of ssrc ls ≡ None
          → Follows after_block (cond t (goes (added_by ssrc_of (record { ssrc = ssrc; totals = counted form n b fresh_totals }) ls)) (refuses Places))
      with_room true q e =
          let less = ltb-true (length ls) 16 q in
          let here = found_here ps ls s b form n ssrc is o e in
          let many : length (held_of ps) ≡ length ls = ap length s.are ∙ length-map ls place_of in
          let not_full : full ps ≡ false = ne_eqb (length (held_of ps)) (length ps) (λ z. omega (arith, s.long)) in
          still_same ps ls s b form n ssrc is o fresh_totals (ap record_in here) (rw here not_full) (added_by ssrc_of (record { ssrc = ssrc; totals = counted form n b fresh_totals }) ls)
          (put_added (record { ssrc = ssrc; totals = counted form n b fresh_totals }) ls e)
      with_room false q e = tt

      go : (l : Option Line) → found_by ssrc_of ssrc ls ≡ l → Follows after_block (settled_by by_value (counted form n b) ssrc ls l)
      go None e = with_room (ltb (length ls) 16) refl e
      go (Some l) e =
          let here = found_here ps ls s b form n ssrc is o e in
          let rises = subst (λ (qs : List Place). rising 0 qs ≡ true) s.are (kept_rises ps s.good.ruled) in
          let renewed : Line = record { ssrc = ssrc; totals = counted form n b l.totals } in
          still_same ps ls s b form n ssrc is o l.totals (ap record_in here) (rw here) (renewed_by ssrc_of renewed ls) (put_renewed renewed ls 0 rises e)

  next_follows : (own : Form) → Follows (table_by ps b (block_of b)) (next_of by_value own b ls)
  unfolding next_of
  next_follows own = go (block_of b) refl
    where
      chosen : (t : Bool) (form : Form) (n ssrc : ℕ) → same_form form own ≡ t → block_of b ≡ Ok (read.Arrivals form n ssrc)
          → Follows (table_by ps b (Ok (read.Arrivals form n ssrc))) (cond t (settled by_value (counted own n b) ssrc ls) (refuses Contents))
      chosen true form n ssrc q is =
          subst (λ (f : Form). Follows (table_by ps b (Ok (read.Arrivals form n ssrc))) (settled by_value (counted f n b) ssrc ls)) (same_form_lem form own q) (settled_follows form n ssrc is)
      chosen false form n ssrc q is = tt

      go : (r : Result Block Refusal) → block_of b ≡ r → Follows (table_by ps b r) (next_by by_value own b ls r)
      go (Ok (read.Arrivals form n ssrc)) is = chosen (same_form form own) form n ssrc refl is
      go (Ok (read.Label form n ssrc)) is = tt
      go (Err refusal) is = tt

-- ---- over all blocks

walk_follows : (i : ℕ) (bs : List (List ℕ)) (k : State) (ps : List Place) → Each Octets bs → Same ps k.lines → (walk ecnstreams i bs k).ended ≡ None
    → map place_of (walk ecnstreams i bs k).state.lines ≡ held_of (table_behind ps bs)
unfolding walk onward
walk_follows i [] k ps o s e = sym s.are
walk_follows i (b ∷ bs) k ps o s e =
    go (next_of by_value k.form b k.lines) (next_follows ps k.lines s b o.0 k.form) (λ k. walk_follows (suc i) bs k (table_by ps b (block_of b)) o.1) e
  where
    go : (next : Next (List Line)) → Follows (table_by ps b (block_of b)) next
        → ((k : State) → Same (table_by ps b (block_of b)) k.lines → (walk ecnstreams (suc i) bs k).ended ≡ None
        → map place_of (walk ecnstreams (suc i) bs k).state.lines ≡ held_of (table_behind (table_by ps b (block_of b)) bs))
        → (onward (turned i (taken k next)) (walk ecnstreams (suc i) bs)).ended ≡ None
        → map place_of (onward (turned i (taken k next)) (walk ecnstreams (suc i) bs)).state.lines ≡ held_of (table_behind (table_by ps b (block_of b)) bs)
    go (goes ls) s later e = later (record { form = k.form; label = k.label; lines = ls }) s e
    go (refuses refusal) s later e = let z : ◌≡◌ {A = ℕ} 0 1 = cc in absurd (omega arith)

none_held : Same (replicate 16 empty_place) []
unfolding held_of rest_of rising fresh
none_held = record { good = record { ruled = refl; sounds = refl }; long = refl; are = refl }

pub lines_are_table : LinesAreTable
unfolding walked onward
lines_are_table trace o e = go (block_of (blocks_of trace).zeroth) e
  where
    rest : State → Run State
    rest = walk ecnstreams 1 (blocks_of trace).others

    go : (r : Result Block Refusal) → (onward (turned 0 (begun_by (blocks_of trace).zeroth r)) rest).ended ≡ None
        → map place_of (onward (turned 0 (begun_by (blocks_of trace).zeroth r)) rest).state.lines ≡ held_of (table_behind (replicate 16 empty_place) (blocks_of trace).others)
    go (Ok (read.Label form n ssrc)) e = walk_follows 1 (blocks_of trace).others _ (replicate 16 empty_place) (octets_blocks trace o) none_held e
    go (Ok (read.Arrivals form n ssrc)) e = let z : ◌≡◌ {A = ℕ} 0 1 = cc in absurd (omega arith)
    go (Err refusal) e = let z : ◌≡◌ {A = ℕ} 0 1 = cc in absurd (omega arith)

-- the hypotheses are met
used : Unit {0}
used = let table = lines_are_table sources (octets_drop 512 sources sources-met.bytes) met.none_refused in tt
