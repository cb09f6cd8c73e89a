-- Each row of ecnstreams is ecntable's last row for that source alone. Assumes nothing.
use Rattle.std.specs.Prelude.{Option, Some, None, Result, Ok, Err}
use Rattle.answers.specs.declared.Refusal.{Refusal}
use mathlib.Core.Path.{◌≡◌, refl, sym, ap, ap₂, subst, ◌∙◌}
use mathlib.Core.Bool.{Bool, true, false, cond}
use mathlib.Core.List.{List, [], ◌∷◌, ◌++◌, map, append-nil, append_assoc}
use Prim.Native.Nat.{ℕ, suc, ◌^◌, ◌≤◌, ◌<◌}
use native.Mathlib.Omega.{arith}
use borrow.Author.Tests.{eq-eqb, eqb-true, ne_eqb}
use lib.Dec.{eqb, ltb}
use lib.ListN.{length, take, drop, length-append}
use lib.Seq.{take_at, drop_at}
use Rattle.answers.specs.declared.Refusal.TheVariants.{Contents, Places}
use Rattle.numbers.proofs.BigEndian.{Octets, word_lt}
use Rattle.numbers.proofs.Octets.{octets_take, octets_drop, octets_append, octets_nil}
use Rattle.format.specs.Blocks.{block_bytes, body_at}
use Rattle.format.specs.Forms.{shape_of, same_form}
use Rattle.format.specs.declared.Form.{Form}
use Rattle.format.proofs.Same.{same_form_lem}
use Rattle.source.specs.declared.Totals.{Totals}
use Rattle.source.specs.Totals.{fresh_totals}
use Rattle.trace.specs.Contents.{label_ok}
use Rattle.trace.specs.Layout.{label_block, body_of}
use Rattle.trace.specs.Reading.{block_of}
use Rattle.trace.specs.declared.Block.{Block}
use Rattle.trace.specs.declared.Block.TheVariants as read
use Rattle.trace.specs.declared.Record.{Record}
use Rattle.trace.proofs.Accepted.{accepted, label_is_written}
use Rattle.trace.proofs.Layouts.{length-label_block}
use Rattle.trace.proofs.ReadBack.{label_reads_back}
use Rattle.table.specs.Lines.{row_bytes}
use Rattle.walk.specs.Blocks.{Blocks, cut, blocks_of, joined}
use Rattle.walk.specs.Programs.{Run, turned, onward, walk, walked}
use Rattle.walk.specs.Steps.{Next, goes, refuses}
use Rattle.walk.proofs.Cuts.{Each, cut_joined, joined_long}
use Rattle.walk.proofs.Pieces.{octets_blocks}
use Rattle.mixed.specs.declared.Line.{Line}
use Rattle.mixed.specs.Places.{found_by, renewed_by, added_by}
use Rattle.mixed.specs.Lines.{by_value}
use Rattle.mixed.specs.Blocks.{counted, settled_by, settled, next_by, next_of}
use Rattle.mixed.specs.Tables.{Kept, begun_by, taken, ecnstreams}
use Rattle.mixed.specs.Theorems.{Rising}
use Rattle.mixed.specs.Witnesses.{trace as sources}
use Rattle.mixed.proofs.Restored.{Good}
use Rattle.mixed.proofs.Kept.{fresh_good}
use Rattle.mixed.proofs.Rises.{lines_rise}
use Rattle.mixed.proofs.Witnesses.{met as sources-met}
use Rattle.demands.specs.PrintedTable.{records_by, together, AllArrivals, EndsIn}
use Rattle.demands.specs.BothForms.{records_totals}
use Rattle.demands.specs.EachRow.{named_by, naming, EachLine, EachRow}
use Rattle.demands.proofs.AsPlaces.{ssrc_of}
use Rattle.demands.proofs.LastRow.{last_row_lem}
use Rattle.demands.proofs.OneStream.{none_counted, counts_own, still_good}
use Rattle.demands.proofs.Witnesses.{met}

-- ---- the line of an SSRC behind one that is put in

module _ (new : Line) where
  own : eqb new.ssrc new.ssrc ≡ true
  own = eq-eqb new.ssrc new.ssrc refl

  added_own : (ls : List Line) → found_by ssrc_of new.ssrc ls ≡ None → found_by ssrc_of new.ssrc (added_by ssrc_of new ls) ≡ Some new
  unfolding found_by added_by
  added_own [] e = rw own
  added_own (l ∷ ls) e = go (added_own ls) (eqb l.ssrc new.ssrc) refl (ltb l.ssrc new.ssrc) e
    where
      go : (found_by ssrc_of new.ssrc ls ≡ None → found_by ssrc_of new.ssrc (added_by ssrc_of new ls) ≡ Some new) → (a : Bool) → eqb l.ssrc new.ssrc ≡ a → (t : Bool)
          → cond a (Some l) (found_by ssrc_of new.ssrc ls) ≡ None → found_by ssrc_of new.ssrc (cond t (l ∷ added_by ssrc_of new ls) (new ∷ l ∷ ls)) ≡ Some new
      go more true ha t e = let z : ◌≡◌ {A = ℕ} 0 1 = cc in absurd (omega arith)
      go more false ha true e = rw ha (more e)
      go more false ha false e = rw own

  renewed_own : (ls : List Line) (l : Line) → found_by ssrc_of new.ssrc ls ≡ Some l → found_by ssrc_of new.ssrc (renewed_by ssrc_of new ls) ≡ Some new
  unfolding found_by renewed_by
  renewed_own [] l e = let z : ◌≡◌ {A = ℕ} 0 1 = cc in absurd (omega arith)
  renewed_own (m ∷ ls) l e = go (eqb m.ssrc new.ssrc) refl (renewed_own ls l) e
    where
      go : (a : Bool) → eqb m.ssrc new.ssrc ≡ a → (found_by ssrc_of new.ssrc ls ≡ Some l → found_by ssrc_of new.ssrc (renewed_by ssrc_of new ls) ≡ Some new)
          → cond a (Some m) (found_by ssrc_of new.ssrc ls) ≡ Some l → found_by ssrc_of new.ssrc (cond a (new ∷ ls) (m ∷ renewed_by ssrc_of new ls)) ≡ Some new
      go true ha more e = rw own
      go false ha more e = rw ha (more e)

  module _ (ssrc : ℕ) (other : eqb new.ssrc ssrc ≡ false) where
    added_other : (ls : List Line) → found_by ssrc_of ssrc (added_by ssrc_of new ls) ≡ found_by ssrc_of ssrc ls
    unfolding found_by added_by
    added_other [] = rw other
    added_other (l ∷ ls) = go (ltb l.ssrc new.ssrc) (added_other ls)
      where
        go : (t : Bool) → found_by ssrc_of ssrc (added_by ssrc_of new ls) ≡ found_by ssrc_of ssrc ls → found_by ssrc_of ssrc (cond t (l ∷ added_by ssrc_of new ls) (new ∷ l ∷ ls)) ≡ found_by ssrc_of ssrc (l ∷ ls)
        go true more = ap (λ (f : Option Line). cond (eqb l.ssrc ssrc) (Some l) f) more
        go false more = rw other

    renewed_other : (ls : List Line) → found_by ssrc_of ssrc (renewed_by ssrc_of new ls) ≡ found_by ssrc_of ssrc ls
    unfolding found_by renewed_by
    renewed_other [] = refl
    renewed_other (m ∷ ls) = go (eqb m.ssrc new.ssrc) refl (renewed_other ls)
      where
        go : (a : Bool) → eqb m.ssrc new.ssrc ≡ a → found_by ssrc_of ssrc (renewed_by ssrc_of new ls) ≡ found_by ssrc_of ssrc ls
            → found_by ssrc_of ssrc (cond a (new ∷ ls) (m ∷ renewed_by ssrc_of new ls)) ≡ found_by ssrc_of ssrc (m ∷ ls)
        go true ha more = let same : eqb m.ssrc ssrc ≡ false = ap (λ (k : ℕ). eqb k ssrc) (eqb-true m.ssrc new.ssrc ha) ∙ other in rw (other, same)
        go false ha more = ap (λ (f : Option Line). cond (eqb m.ssrc ssrc) (Some m) f) more

-- ---- blocks one behind the other

together_app : (cs ds : List (List ℕ)) → together (cs ++ ds) ≡ together cs ++ together ds
together_app [] ds = refl
together_app (b ∷ cs) ds =
    ap (λ (rs : List Record). records_by b (block_of b) ++ rs) (together_app cs ds) ∙ sym (append_assoc (records_by b (block_of b)) (together cs) (together ds))

each_app : (P : List ℕ → Type 0) (cs ds : List (List ℕ)) → Each P cs → Each P ds → Each P (cs ++ ds)
each_app P [] ds h k = k
each_app P (b ∷ cs) ds h k = (h.0, each_app P cs ds h.1 k)

arrivals_app : (form : Form) (ssrc : ℕ) (cs ds : List (List ℕ)) → AllArrivals form ssrc cs → AllArrivals form ssrc ds → AllArrivals form ssrc (cs ++ ds)
arrivals_app form ssrc [] ds h k = k
arrivals_app form ssrc (b ∷ cs) ds h k = (h.0, h.1, arrivals_app form ssrc cs ds h.2 k)

octets_joined : (cs : List (List ℕ)) → Each Octets cs → Octets (joined cs)
octets_joined [] h = octets_nil
octets_joined (b ∷ cs) h = octets_append b (joined cs) h.0 (octets_joined cs h.1)

arrivals_long : (form : Form) (ssrc : ℕ) (cs : List (List ℕ)) → AllArrivals form ssrc cs → Each (λ b. length b ≡ block_bytes) cs
arrivals_long form ssrc [] h = tt
arrivals_long form ssrc (b ∷ cs) h = ((accepted b h.1).block.whole, arrivals_long form ssrc cs h.2)

named_first : (ssrc : ℕ) (b : List ℕ) (r : Result Block Refusal) (bs : List (List ℕ)) → named_by ssrc b r bs ≡ named_by ssrc b r [] ++ bs
named_first ssrc b (Ok (read.Arrivals form n s)) bs = go (eqb s ssrc)
  where
    go : (t : Bool) → cond t (b ∷ bs) bs ≡ cond t (b ∷ []) [] ++ bs
    go true = refl
    go false = refl
named_first ssrc b (Ok (read.Label form n s)) bs = refl
named_first ssrc b (Err refusal) bs = refl

-- ---- the line of a source has the totals over its blocks

module _ (form : Form) (ssrc : ℕ) where
  record CountedOf (cs : List (List ℕ)) (l : Line) : Type 0 where
    is : l ≡ record { ssrc = ssrc; totals = records_totals (together cs) }
    good : Good (records_totals (together cs))
    some_blocks : 1 ≤ length cs
    wide : ssrc < 2 ^ 32
    arrive : AllArrivals form ssrc cs
    octets : Each Octets cs

  abbrev Has : List (List ℕ) → Option Line → Type 0
  Has cs None = cs ≡ []
  Has cs (Some l) = CountedOf cs l

  abbrev Keeps : List (List ℕ) → Next (List Line) → Type 0
  Keeps cs (goes ls) = Has cs (found_by ssrc_of ssrc ls)
  Keeps cs (refuses refusal) = Unit {0}

  module _ (b : List ℕ) (o : Octets b) (n : ℕ) (is : block_of b ≡ Ok (read.Arrivals form n ssrc)) where
    counted_in_lem : (cs : List (List ℕ)) (t : Totals) → t ≡ records_totals (together cs) → Good (records_totals (together cs)) → AllArrivals form ssrc cs → Each Octets cs
        → CountedOf (cs ++ (b ∷ [])) (record { ssrc = ssrc; totals = counted form n b t })
    counted_in_lem cs t e g a oc =
        let records : together (cs ++ (b ∷ [])) ≡ together cs ++ records_by b (Ok (read.Arrivals form n ssrc)) =
        together_app cs (b ∷ []) ∙ ap (λ (rs : List Record). together cs ++ rs) (append-nil (records_by b (block_of b)) ∙ ap (records_by b) is) in
        let counts : counted form n b t ≡ records_totals (together (cs ++ (b ∷ []))) =
        ap (counted form n b) e ∙ counts_own form ssrc b n is (together cs) g ∙ ap records_totals (sym records) in
        record {
          is = ap (λ (u : Totals). record { ssrc = ssrc; totals = u }) counts;
          good = subst (λ (rs : List Record). Good (records_totals rs)) (sym records) (still_good form ssrc b n is (together cs) o g);
          some_blocks = omega (arith, length-append cs (b ∷ []));
          wide = omega (arith, (accepted b is).block.its_ssrc, word_lt b 4 4 o);
          arrive = arrivals_app form ssrc cs (b ∷ []) a (n, is, tt);
          octets = each_app Octets cs (b ∷ []) oc (o, tt);
        }

    own_settled : (ls : List Line) (cs : List (List ℕ)) → Has cs (found_by ssrc_of ssrc ls) → Keeps (cs ++ (b ∷ [])) (settled by_value (counted form n b) ssrc ls)
    unfolding settled
    own_settled ls cs h = go (found_by ssrc_of ssrc ls) refl h
      where
        with_room : (t : Bool) → found_by ssrc_of ssrc ls ≡ None → cs ≡ []
            → Keeps (cs ++ (b ∷ [])) (cond t (goes (added_by ssrc_of (record { ssrc = ssrc; totals = counted form n b fresh_totals }) ls)) (refuses Places))
        with_room true e z =
            subst (Has (cs ++ (b ∷ []))) (sym (added_own (record { ssrc = ssrc; totals = counted form n b fresh_totals }) ls e))
            (subst (λ (ds : List (List ℕ)). CountedOf (ds ++ (b ∷ [])) (record { ssrc = ssrc; totals = counted form n b fresh_totals })) (sym z)
            (counted_in_lem [] fresh_totals (sym none_counted) (rw none_counted fresh_good) tt tt))
        with_room false e z = tt

        go : (l : Option Line) → found_by ssrc_of ssrc ls ≡ l → Has cs l → Keeps (cs ++ (b ∷ [])) (settled_by by_value (counted form n b) ssrc ls l)
        go None e h = with_room (ltb (length ls) 16) e h
        go (Some l) e h =
            subst (Has (cs ++ (b ∷ []))) (sym (renewed_own (record { ssrc = ssrc; totals = counted form n b l.totals }) ls l e))
            (counted_in_lem cs l.totals (ap (λ (m : Line). m.totals) h.is) h.good h.arrive h.octets)

  other_settled : (count : Totals → Totals) (s : ℕ) → eqb s ssrc ≡ false → (ls : List Line) (cs : List (List ℕ)) → Has cs (found_by ssrc_of ssrc ls) → Keeps cs (settled by_value count s ls)
  unfolding settled
  other_settled count s other ls cs h = go (found_by ssrc_of s ls)
    where
      with_room : (t : Bool) → Keeps cs (cond t (goes (added_by ssrc_of (record { ssrc = s; totals = count fresh_totals }) ls)) (refuses Places))
      with_room true = subst (Has cs) (sym (added_other (record { ssrc = s; totals = count fresh_totals }) ssrc other ls)) h
      with_room false = tt

      go : (l : Option Line) → Keeps cs (settled_by by_value count s ls l)
      go None = with_room (ltb (length ls) 16)
      go (Some l) = subst (Has cs) (sym (renewed_other (record { ssrc = s; totals = count l.totals }) ssrc other ls)) h

  next_keeps : (b : List ℕ) → Octets b → (ls : List Line) (cs : List (List ℕ)) → Has cs (found_by ssrc_of ssrc ls) → Keeps (cs ++ named_by ssrc b (block_of b) []) (next_of by_value form b ls)
  unfolding next_of
  next_keeps b o ls cs h = go (block_of b) refl
    where
      named : (t : Bool) (n s : ℕ) → eqb s ssrc ≡ t → block_of b ≡ Ok (read.Arrivals form n s) → Keeps (cs ++ cond t (b ∷ []) []) (settled by_value (counted form n b) s ls)
      named true n s e is =
          let same = eqb-true s ssrc e in
          subst (λ (k : ℕ). Keeps (cs ++ (b ∷ [])) (settled by_value (counted form n b) k ls)) (sym same)
          (own_settled b o n (is ∙ ap ((λ x. Ok (read.Arrivals form n x))) same) ls cs h)
      named false n s e is = subst (λ (ds : List (List ℕ)). Keeps ds (settled by_value (counted form n b) s ls)) (sym (append-nil cs)) (other_settled (counted form n b) s e ls cs h)

      chosen : (t : Bool) (f : Form) (n s : ℕ) → same_form f form ≡ t → block_of b ≡ Ok (read.Arrivals f n s)
          → Keeps (cs ++ cond (eqb s ssrc) (b ∷ []) []) (cond t (settled by_value (counted form n b) s ls) (refuses Contents))
      chosen true f n s q is = named (eqb s ssrc) n s refl (is ∙ ap (λ (g : Form). Ok (read.Arrivals g n s)) (same_form_lem f form q))
      chosen false f n s q is = tt

      go : (r : Result Block Refusal) → block_of b ≡ r → Keeps (cs ++ named_by ssrc b r []) (next_by by_value form b ls r)
      go (Ok (read.Arrivals f n s)) is = chosen (same_form f form) f n s refl is
      go (Ok (read.Label f n s)) is = tt
      go (Err refusal) is = tt

  walk_keeps : (i : ℕ) (bs : List (List ℕ)) (label : List ℕ) (ls : List Line) (cs : List (List ℕ)) → Each Octets bs → Has cs (found_by ssrc_of ssrc ls)
      → (walk ecnstreams i bs (record { form = form; label = label; lines = ls })).ended ≡ None
      → Has (cs ++ naming ssrc bs) (found_by ssrc_of ssrc (walk ecnstreams i bs (record { form = form; label = label; lines = ls })).state.lines)
  unfolding walk onward naming
  walk_keeps i [] label ls cs o h e = subst (λ (ds : List (List ℕ)). Has ds (found_by ssrc_of ssrc ls)) (sym (append-nil cs)) h
  walk_keeps i (b ∷ bs) label ls cs o h e =
      subst (λ (ds : List (List ℕ)). Has ds (found_by ssrc_of ssrc (walk ecnstreams i (b ∷ bs) k).state.lines)) (sym split)
      (go (next_of by_value form b ls) (next_keeps b o.0 ls cs h) (λ ms. walk_keeps (suc i) bs label ms (cs ++ first) o.1) e)
    where
      k : Kept
      k = record { form = form; label = label; lines = ls }

      first : List (List ℕ)
      first = named_by ssrc b (block_of b) []

      split : cs ++ naming ssrc (b ∷ bs) ≡ (cs ++ first) ++ naming ssrc bs
      split = ap (λ (ds : List (List ℕ)). cs ++ ds) (named_first ssrc b (block_of b) (naming ssrc bs)) ∙ sym (append_assoc cs first (naming ssrc bs))

      go : (next : Next (List Line)) → Keeps (cs ++ first) next
          → ((ms : List Line) → Has (cs ++ first) (found_by ssrc_of ssrc ms) → (walk ecnstreams (suc i) bs (record { form = form; label = label; lines = ms })).ended ≡ None
          → Has ((cs ++ first) ++ naming ssrc bs) (found_by ssrc_of ssrc (walk ecnstreams (suc i) bs (record { form = form; label = label; lines = ms })).state.lines))
          → (onward (turned i (taken k next)) (walk ecnstreams (suc i) bs)).ended ≡ None
          → Has ((cs ++ first) ++ naming ssrc bs) (found_by ssrc_of ssrc (onward (turned i (taken k next)) (walk ecnstreams (suc i) bs)).state.lines)
      go (goes ms) s later e = later ms s e
      go (refuses refusal) s later e = let z : ◌≡◌ {A = ℕ} 0 1 = cc in absurd (omega arith)

-- ---- form and label stay

record SameLabel (form : Form) (label : List ℕ) (k : Kept) : Type 0 where
  forms : k.form ≡ form
  labels : k.label ≡ label

walk_label : (i : ℕ) (bs : List (List ℕ)) (form : Form) (label : List ℕ) (ls : List Line) → SameLabel form label (walk ecnstreams i bs (record { form = form; label = label; lines = ls })).state
unfolding walk onward
walk_label i [] form label ls = record { forms = refl; labels = refl }
walk_label i (b ∷ bs) form label ls = go (next_of by_value form b ls) (λ ms. walk_label (suc i) bs form label ms)
  where
    go : (next : Next (List Line)) → ((ms : List Line) → SameLabel form label (walk ecnstreams (suc i) bs (record { form = form; label = label; lines = ms })).state)
        → SameLabel form label (onward (turned i (taken (record { form = form; label = label; lines = ls }) next)) (walk ecnstreams (suc i) bs)).state
    go (goes ms) later = later ms
    go (refuses refusal) later = record { forms = refl; labels = refl }

-- ---- each line is the one that is found

each_map : (P Q : Line → Type 0) → ((l : Line) → P l → Q l) → (ls : List Line) → EachLine P ls → EachLine Q ls
each_map P Q f [] h = tt
each_map P Q f (l ∷ ls) h = (f l h.0, each_map P Q f ls h.1)

all_above : (a : ℕ) (ls : List Line) → Rising (a ∷ map ssrc_of ls) → EachLine (λ m. a < m.ssrc) ls
all_above a [] h = tt
all_above a (l ∷ []) h = (h.0, tt)
all_above a (l ∷ m ∷ ls) h = (h.0, each_map (λ x. l.ssrc < x.ssrc) (λ x. a < x.ssrc) (λ x q. omega (arith, h.0, q)) (m ∷ ls) (all_above l.ssrc (m ∷ ls) h.1))

rest_rises : (a : ℕ) (ss : List ℕ) → Rising (a ∷ ss) → Rising ss
rest_rises a [] h = tt
rest_rises a (b ∷ ss) h = h.1

each_both : (P Q : Line → Type 0) (ls : List Line) → EachLine P ls → EachLine Q ls → EachLine (λ l. P l × Q l) ls
each_both P Q [] h k = tt
each_both P Q (l ∷ ls) h k = ((h.0, k.0), each_both P Q ls h.1 k.1)

each_found : (ls : List Line) → Rising (map ssrc_of ls) → EachLine (λ l. found_by ssrc_of l.ssrc ls ≡ Some l) ls
unfolding found_by
each_found [] r = tt
each_found (l ∷ ls) r =
    let there = each_found ls (rest_rises l.ssrc (map ssrc_of ls) r) in
    let above = all_above l.ssrc ls r in (
      ap (λ (t : Bool). cond t (Some l) (found_by ssrc_of l.ssrc ls)) (eq-eqb l.ssrc l.ssrc refl),
      each_map (λ m. (found_by ssrc_of m.ssrc ls ≡ Some m) × (l.ssrc < m.ssrc)) (λ m. found_by ssrc_of m.ssrc (l ∷ ls) ≡ Some m)
          (λ m q. let a = q.1 in ap (λ (t : Bool). cond t (Some l) (found_by ssrc_of m.ssrc ls)) (ne_eqb l.ssrc m.ssrc (λ z. omega arith)) ∙ q.0) ls
          (each_both (λ m. found_by ssrc_of m.ssrc ls ≡ Some m) (λ m. l.ssrc < m.ssrc) ls there above),
    )

-- ---- a source's own trace

module _ (form : Form) (label : List ℕ) (ssrc : ℕ) (cs : List (List ℕ)) (fits : length label ≤ 502) where
  abbrev zeroth : List ℕ
  zeroth = label_block (shape_of form) label ssrc

  long : length zeroth ≡ block_bytes
  long = length-label_block (shape_of form) label ssrc fits

  own_blocks : Each (λ b. length b ≡ block_bytes) cs → blocks_of (zeroth ++ joined cs) ≡ record { zeroth = zeroth; others = cs }
  unfolding blocks_of
  own_blocks each =
      let all = zeroth ++ joined cs in
      let few : length cs ≤ length all = omega (arith, length-append zeroth (joined cs), joined_long cs each) in
      λ i. record {
        zeroth = take_at zeroth (joined cs) block_bytes long i;
        others = (ap (cut (length all)) (drop_at zeroth (joined cs) block_bytes long) ∙ cut_joined (length all) cs each few) i;
      }

  own_row : (l : Line) → CountedOf form ssrc cs l → (block_of zeroth ≡ Ok (read.Label form (length label) ssrc)) × (take (length label) (body_of zeroth) ≡ label)
      → EndsIn (zeroth ++ joined cs) label ssrc (row_bytes label ssrc l.totals)
  own_row l c reads =
      let blocks = own_blocks (arrivals_long form ssrc cs c.arrive) in
      let octets = subst Octets (sym (drop_at zeroth (joined cs) block_bytes long)) (octets_joined cs c.octets) in
      let is-label = ap (λ (bs : Blocks). block_of bs.zeroth) blocks ∙ reads.0 in
      let row =
      ap₂ {C = List ℕ × List ℕ} (λ (text : List ℕ) (t : Totals). (text, row_bytes text ssrc t)) (ap (λ (bs : Blocks). take (length label) (body_of bs.zeroth)) blocks ∙ reads.1)
      (ap (λ (bs : Blocks). records_totals (together bs.others)) blocks ∙ sym (ap (λ (m : Line). m.totals) c.is)) in
      subst (λ (x : List ℕ × List ℕ). EndsIn (zeroth ++ joined cs) x.0 ssrc x.1) row
      (last_row_lem (zeroth ++ joined cs) form (length label) ssrc octets is-label
      (subst (λ (bs : Blocks). 1 ≤ length bs.others) (sym blocks) c.some_blocks) (subst (λ (bs : Blocks). AllArrivals form ssrc bs.others) (sym blocks) c.arrive))

octets_zeroth : (trace : List ℕ) → Octets trace → Octets (blocks_of trace).zeroth
unfolding blocks_of
octets_zeroth trace o = octets_take block_bytes trace o

pub each_row : EachRow
unfolding walked onward found_by
each_row trace o e = go (block_of (blocks_of trace).zeroth) refl e (lines_rise (blocks_of trace)).rising
  where
    others : List (List ℕ)
    others = (blocks_of trace).others

    rest : Kept → Run Kept
    rest = walk ecnstreams 1 others

    behind : Result Block Refusal → Kept
    behind r = (onward (turned 0 (begun_by (blocks_of trace).zeroth r)) rest).state

    go : (r : Result Block Refusal) → block_of (blocks_of trace).zeroth ≡ r → (onward (turned 0 (begun_by (blocks_of trace).zeroth r)) rest).ended ≡ None → Rising (map ssrc_of (behind r).lines)
        → EachLine (λ l. EndsIn (label_block (shape_of (behind r).form) (behind r).label l.ssrc ++ joined (naming l.ssrc others)) (behind r).label l.ssrc (row_bytes (behind r).label l.ssrc l.totals)) (behind r).lines
    go (Ok (read.Label form n first)) is e rises =
        each_map (λ l. found_by ssrc_of l.ssrc lines ≡ Some l)
        (λ l. EndsIn (label_block (shape_of (behind (Ok (read.Label form n first))).form) (behind (Ok (read.Label form n first))).label l.ssrc ++ joined (naming l.ssrc others)) (behind (Ok (read.Label form n first))).label l.ssrc (row_bytes (behind (Ok (read.Label form n first))).label l.ssrc l.totals))
        row lines (each_found lines rises)
      where
        zero : List ℕ
        zero = (blocks_of trace).zeroth

        text : List ℕ
        text = take n (drop body_at zero)

        lines : List Line
        lines = (behind (Ok (read.Label form n first))).lines

        same : SameLabel form text (behind (Ok (read.Label form n first)))
        same = walk_label 1 others form text []

        place : take n (body_of zero) ≡ text
        place = (accepted zero is).block.place

        written_so : label_ok text ≡ true
        written_so = sym (ap label_ok place) ∙ (label_is_written form zero n first (octets_zeroth trace o) is).0

        fits : length text ≤ 502
        fits = omega (arith, ap length place, (label_is_written form zero n first (octets_zeroth trace o) is).1, (accepted zero is).block.room)

        counted_so : (l : Line) → found_by ssrc_of l.ssrc lines ≡ Some l → CountedOf form l.ssrc (naming l.ssrc others) l
        counted_so l found =
            subst (Has form l.ssrc (naming l.ssrc others)) found
            (walk_keeps form l.ssrc 1 others text [] [] (octets_blocks trace (octets_drop block_bytes trace o)) refl e)

        row : (l : Line) → found_by ssrc_of l.ssrc lines ≡ Some l
            → EndsIn (label_block (shape_of (behind (Ok (read.Label form n first))).form) (behind (Ok (read.Label form n first))).label l.ssrc ++ joined (naming l.ssrc others)) (behind (Ok (read.Label form n first))).label l.ssrc (row_bytes (behind (Ok (read.Label form n first))).label l.ssrc l.totals)
        row l found =
            let c = counted_so l found in
            subst (λ (t : List ℕ). EndsIn (label_block (shape_of (behind (Ok (read.Label form n first))).form) t l.ssrc ++ joined (naming l.ssrc others)) t l.ssrc (row_bytes t l.ssrc l.totals)) (sym same.labels)
            (subst (λ (f : Form). EndsIn (label_block (shape_of f) text l.ssrc ++ joined (naming l.ssrc others)) text l.ssrc (row_bytes text l.ssrc l.totals)) (sym same.forms)
            (own_row form text l.ssrc (naming l.ssrc others) fits l c (label_reads_back form text l.ssrc written_so c.wide)))
    go (Ok (read.Arrivals form n s)) is e rises = let z : ◌≡◌ {A = ℕ} 0 1 = cc in absurd (omega arith)
    go (Err refusal) is e rises = let z : ◌≡◌ {A = ℕ} 0 1 = cc in absurd (omega arith)

-- the hypotheses are met
used : Unit {0}
used = let rows = each_row sources sources-met.bytes met.none_refused in tt
