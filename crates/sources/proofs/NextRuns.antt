-- A run that a block brings is good where the run before it is; and so is the one that block 0 starts. Assumes nothing.
use Rattle.std.specs.Prelude.{None, Result, Ok, Err}
use mathlib.Core.Path.{◌≡◌, refl, sym, ap, ◌∙◌, subst}
use mathlib.Core.Bool.{Bool, true, false, cond}
use mathlib.Core.List.{List, ◌++◌}
use Prim.Native.Nat.{ℕ, ◌*◌, ◌≤◌}
use native.Mathlib.Omega.{arith}
use borrow.Author.Tests.{eq-eqb}
use lib.ListN.{length, drop, length-append, length-drop}
use lib.Seq.{take_at, length-take-le}
use Rattle.answers.specs.Conditions.{all}
use Rattle.answers.specs.declared.Refusal.{Refusal}
use Rattle.answers.specs.declared.Refusal.TheVariants.{Contents}
use Rattle.numbers.proofs.BigEndian.{Octets}
use Rattle.numbers.proofs.Octets.{octets_take, octets_drop}
use Rattle.numbers.specs.BigEndian.{word}
use Rattle.format.specs.Blocks.{block_bytes, body_at, body_bytes}
use Rattle.format.specs.Forms.{shape_of, width, same_form}
use Rattle.format.specs.declared.Form.{Form}
use Rattle.source.specs.Record.{fresh}
use Rattle.trace.specs.Contents.{label_ok}
use Rattle.trace.specs.Reading.{block_of}
use Rattle.trace.specs.declared.Block.{Block}
use Rattle.trace.specs.declared.Block.TheVariants as read
use Rattle.trace.proofs.Accepted.{accepted}
use Rattle.walk.specs.Steps.{Next, goes, refuses}
use Rattle.sources.specs.declared.Place.{Place}
use Rattle.sources.specs.declared.Table.{Table}
use Rattle.sources.specs.declared.Counted.{Counted}
use Rattle.sources.specs.declared.Counted.TheVariants as counted
use Rattle.sources.specs.declared.runs.Run.{Run}
use Rattle.sources.specs.Places.{held_of, rest_of}
use Rattle.sources.specs.Rules.{rising, fault}
use Rattle.sources.specs.Answers.{count_places}
use Rattle.sources.specs.Tables.{lent, fault_in, counted_in}
use Rattle.sources.specs.Tallies.{tallied}
use Rattle.sources.specs.Runs.{empty_run, records_in, counted_by, counted_run, next_by, next_of}
use Rattle.sources.specs.Rows.{own_conditions, rows_fault}
use Rattle.sources.proofs.Loaded.{count_long}
use Rattle.sources.proofs.Behind.{block_keeps_rules}
use Rattle.sources.proofs.Tallying.{tallied_sound}
use Rattle.sources.proofs.RunFaults.{GoodRun, run_good, good_rows, rows_own}
use Rattle.sources.proofs.HeldHere.{not_over, table_good}

-- good, and of 16 places
pub record Whole (run : Run) : Type 0 where
  pub good : GoodRun run
  pub long : length run.table.places ≡ 16

-- ---- the run that a block brings

module _ (run : Run) (w : Whole run) (n ssrc : ℕ) (b : List ℕ) (o : Octets b) where
  abbrev t : Table
  t = run.table

  abbrev bytes : List ℕ
  bytes = records_in run.form n b

  abbrev wide : ℕ
  wide = width (shape_of run.form)

  bytes_octets : Octets bytes
  bytes_octets = octets_take (n * wide) (drop body_at b) (octets_drop body_at b o)

  abbrev ps : List Place
  ps = count_places (lent t) ssrc wide bytes

  abbrev after : Table
  after = record { places = ps ++ drop t.count t.places; count = t.count }

  lent_long : length (lent t) ≡ t.count
  lent_long = length-take-le t.count t.places (omega (arith, w.long, w.good.count))

  ps_long : length ps ≡ t.count
  ps_long = count_long (lent t) ssrc wide bytes ∙ lent_long

  after_lent : lent after ≡ ps
  after_lent = take_at ps (drop t.count t.places) t.count ps_long

  after_long : length after.places ≡ 16
  after_long = omega (arith, length-append ps (drop t.count t.places), ps_long, length-drop t.count t.places, w.long, w.good.count)

  after_good : fault_in after ≡ None
  unfolding fault_in
  after_good = rw (not_over run w.good w.long, after_lent) (block_keeps_rules (lent t) ssrc wide bytes bytes_octets (table_good run w.good w.long))

  table_is : (counted_in t ssrc wide bytes).table ≡ after
  unfolding counted_in
  table_is = rw (not_over run w.good w.long)

  counted_whole : (table : Table) → table ≡ after → (answer : Counted) {next : Run} → counted_by run table answer ≡ goes next → Whole next
  counted_whole table e (counted.Block stand jumps restarts) {next} q =
      let is : ◌≡◌ {A = Run} (record { form = run.form; length = run.length; table = table; tallies = tallied stand jumps restarts run.tallies }) next = cc in
      subst Whole is
      (record {
        good = record {
          table = ap fault_in e ∙ after_good;
          count = ap (λ (u : Table). u.count) e ∙ w.good.count;
          short = w.good.short;
          tallies = tallied_sound stand jumps restarts run.tallies w.good.tallies;
        };
        long = ap (λ (u : Table). length u.places) e ∙ after_long;
      })
  counted_whole table e (counted.Refused refusal) q = let z : ◌≡◌ {A = ℕ} 0 1 = cc in absurd (omega arith)

  pub run_whole : {next : Run} → counted_run run n ssrc b ≡ goes next → Whole next
  unfolding counted_run
  run_whole e = counted_whole (counted_in t ssrc wide bytes).table table_is (counted_in t ssrc wide bytes).answer e

pub next_whole : (run : Run) (b : List ℕ) (next : Run) → Octets b → Whole run → next_of run b ≡ goes next → Whole next
unfolding next_of
next_whole run b next o w e = go (block_of b) e
  where
    no : {r : Refusal} → ◌≡◌ {A = Next Run} (refuses r) (goes next) → Whole next
    no e = let z : ◌≡◌ {A = ℕ} 0 1 = cc in absurd (omega arith)

    of_form : (c : Bool) (n ssrc : ℕ) → cond c (counted_run run n ssrc b) (refuses Contents) ≡ goes next → Whole next
    of_form true n ssrc e = run_whole run w n ssrc b o e
    of_form false n ssrc e = no e

    go : (r : Result Block Refusal) → next_by run b r ≡ goes next → Whole next
    go (Ok (read.Arrivals form n ssrc)) e = of_form (same_form form run.form) n ssrc e
    go (Ok (read.Label form n ssrc)) e = no e
    go (Err refusal) e = no e

-- form and length stay
pub record SameLabel (run next : Run) : Type 0 where
  pub forms : next.form ≡ run.form
  pub lengths : next.length ≡ run.length

counted_label : (run : Run) (table : Table) (answer : Counted) {next : Run} → counted_by run table answer ≡ goes next → SameLabel run next
counted_label run table (counted.Block stand jumps restarts) {next} e =
    let is : ◌≡◌ {A = Run} (record { form = run.form; length = run.length; table = table; tallies = tallied stand jumps restarts run.tallies }) next = cc in
    record { forms = sym (ap (λ (r : Run). r.form) is); lengths = sym (ap (λ (r : Run). r.length) is) }
counted_label run table (counted.Refused refusal) e = let z : ◌≡◌ {A = ℕ} 0 1 = cc in absurd (omega arith)

pub next_label : (run : Run) (b : List ℕ) (next : Run) → next_of run b ≡ goes next → SameLabel run next
unfolding next_of counted_run
next_label run b next e = go (block_of b) e
  where
    no : {r : Refusal} → ◌≡◌ {A = Next Run} (refuses r) (goes next) → SameLabel run next
    no e = let z : ◌≡◌ {A = ℕ} 0 1 = cc in absurd (omega arith)

    of_form : (c : Bool) (n ssrc : ℕ) → cond c (counted_run run n ssrc b) (refuses Contents) ≡ goes next → SameLabel run next
    of_form true n ssrc e =
        let t = counted_in run.table ssrc (width (shape_of run.form)) (records_in run.form n b) in
        counted_label run t.table t.answer e
    of_form false n ssrc e = no e

    go : (r : Result Block Refusal) → next_by run b r ≡ goes next → SameLabel run next
    go (Ok (read.Arrivals form n ssrc)) e = of_form (same_form form run.form) n ssrc e
    go (Ok (read.Label form n ssrc)) e = no e
    go (Err refusal) e = no e

-- block 0 stays its own
own_stays : (run next : Run) (zeroth : List ℕ) → SameLabel run next → all (own_conditions run zeroth) ≡ true → all (own_conditions next zeroth) ≡ true
own_stays run next zeroth s e =
    ap (λ (r : Run). all (own_conditions r zeroth)) (same_fields) ∙ e
  where
    same_fields : record { form = next.form; length = next.length; table = run.table; tallies = run.tallies } ≡ run
    same_fields = λ i. record { form = s.forms i; length = s.lengths i; table = run.table; tallies = run.tallies }

pub rows_stay : (run : Run) (b : List ℕ) (next : Run) (zeroth : List ℕ) → Octets b → Whole run → rows_fault run zeroth ≡ None → next_of run b ≡ goes next
    → rows_fault next zeroth ≡ None
rows_stay run b next zeroth o w f e =
    good_rows next zeroth (run_good next (next_whole run b next o w e).good) (own_stays run next zeroth (next_label run b next e) (rows_own run zeroth f))

-- ---- the run that block 0 starts

pub empty_whole : (form : Form) (n : ℕ) → n ≤ body_bytes → Whole (empty_run form n)
unfolding fault_in fault held_of rest_of rising fresh
empty_whole form n h = record { good = record { table = refl; count = refl; short = h; tallies = refl }; long = refl }

module _ (zeroth : List ℕ) {form : Form} {n ssrc : ℕ} (e : block_of zeroth ≡ Ok (read.Label form n ssrc)) where
  pub start_whole : Whole (empty_run form n)
  start_whole = empty_whole form n (accepted zeroth e).block.room

  pub start_rows : rows_fault (empty_run form n) zeroth ≡ None
  start_rows =
      let a = accepted zeroth e in
      let k = a.block in
      good_rows (empty_run form n) zeroth (run_good (empty_run form n) start_whole.good)
      (rw (eq-eqb (length zeroth) block_bytes k.whole, eq-eqb (word 2 zeroth 0) (shape_of form).label k.its_kind, eq-eqb (word 2 zeroth 2) n k.its_count, ap label_ok (sym k.place) ∙ a.label))
