-- A trace whose blocks are all sound, in ecntable and in ecnforms. Assumes nothing.
use Rattle.std.specs.Prelude.{Option, Some, None, Result, Ok, Err}
use mathlib.Core.Path.{◌≡◌, refl, sym, ap, ap₂, ◌∙◌, subst}
use mathlib.Core.Bool.{Bool, true, false, cond}
use mathlib.Core.List.{List, [], ◌∷◌}
use Prim.Native.Nat.{ℕ, suc}
use native.Mathlib.Omega.{arith}
use Rattle.answers.specs.declared.Refusal.{Refusal}
use Rattle.answers.specs.declared.Refusal.TheVariants.{FormTwo}
use Rattle.format.specs.Forms.{Shape, shape_of, other_form}
use Rattle.format.specs.declared.Form.{Form}
use Rattle.trace.specs.Layout.{body_of}
use Rattle.trace.specs.Places.{zeroth_of, later_of}
use Rattle.trace.specs.Theorems.{records_in}
use Rattle.trace.specs.declared.Record.{Record}
use Rattle.trace.specs.declared.Zeroth.{Zeroth}
use Rattle.walk.specs.Blocks.{blocks_of}
use Rattle.walk.specs.Steps.{Next, goes, refuses}
use Rattle.walk.specs.Programs.{Ending, Turn, Program, Run as Runs, turned, onward, walk, walked}
use Rattle.convert.specs.Runs.{arrived, start_by, start_of, next_by, next_of}
use Rattle.convert.specs.Tables.{Kept, begun, taken, ecntable}
use Rattle.forms.specs.Conversions.{all_times, timed, next_of as records_of}
use Rattle.forms.specs.Converted.{Kept as Forms, begun as formsBegun, taken as formsTaken, ecnforms}
use Rattle.copies.specs.Fronts.{fault_by, fault_of}
use Rattle.copies.specs.Theorems.{AllOwn, SoundTrace, TableAccepts, AcceptedIsSound, FormsRefuseTimes}
use Rattle.copies.proofs.Fronts.{fault_by_lem}

-- ---- how a run over such blocks ends

-- with no refusal, or with one of some
abbrev pub Ends : (Refusal → Type 0) → Option Ending → Type 0
Ends Q None = Unit {0}
Ends Q (Some e) = Q e.refusal

-- a turn goes on in such a state, or is refused so
abbrev pub Goes : {S : Type 0} → (S → Type 0) → (Refusal → Type 0) → Turn S → Option Refusal → Type 0
Goes P Q t None = P t.state
Goes P Q t (Some refusal) = Q refusal

module _ {S : Type 0} (p : Program S) (P : S → Type 0) (Q : Refusal → Type 0) where
  pub turn_ends : (i : ℕ) (t : Turn S) (rest : S → Runs S) (o : Option Refusal) → t.refusal ≡ o → Goes P Q t o → (P t.state → Ends Q (rest t.state).ended)
      → Ends Q (onward (turned i t) rest).ended
  unfolding onward
  turn_ends i t rest None e g back = rw e (back g)
  turn_ends i t rest (Some refusal) e g back = rw e g

  module _ (form : Form) (ssrc : ℕ) (turns : (i : ℕ) (s : S) (b : List ℕ) → P s → fault_of form ssrc b ≡ None → Goes P Q (p.step i s b) (p.step i s b).refusal) where
    pub walk_ends : (i : ℕ) (bs : List (List ℕ)) (s : S) → P s → AllOwn form ssrc bs → Ends Q (walk p i bs s).ended
    unfolding walk
    walk_ends i [] s g own = tt
    walk_ends i (b ∷ bs) s g own =
        let t = p.step i s b in
        turn_ends i t (walk p (suc i) bs) t.refusal refl (turns i s b g own.0) (λ h. walk_ends (suc i) bs t.state h own.1)

-- a trace's own block is read as arrivals
pub own_read : (form : Form) (ssrc : ℕ) (b : List ℕ) → fault_of form ssrc b ≡ None → (n : ℕ) × (later_of form ssrc b ≡ Ok n)
unfolding fault_of
own_read form ssrc b e = go (later_of form ssrc b) refl e
  where
    go : (r : Result ℕ Refusal) → later_of form ssrc b ≡ r → fault_by r ≡ None → (n : ℕ) × (later_of form ssrc b ≡ Ok n)
    go (Ok n) q e = (n, q)
    go (Err refusal) q e = let z : ◌≡◌ {A = ℕ} 0 1 = cc in absurd (omega arith)

-- ---- ecntable

-- a run of the trace's form and SSRC
abbrev Of : Form → ℕ → Kept → Type 0
Of form ssrc k = (k.run.form ≡ form) × (k.run.ssrc ≡ ssrc)

arrived_of : (form : Form) (ssrc : ℕ) (k : Kept) (n : ℕ) (b : List ℕ) → Of form ssrc k → Of form ssrc (record { run = arrived k.run n b; zeroth = k.zeroth })
unfolding arrived
arrived_of form ssrc k n b h = h

-- what a block brings to a run, by what it reads as
table_next : {form : Form} {ssrc : ℕ} (k : Kept) (b : List ℕ) {r : Result ℕ Refusal} → Of form ssrc k → later_of form ssrc b ≡ r → next_of k.run b ≡ next_by k.run b r
unfolding next_of
table_next k b h e = ap (next_by k.run b) (ap₂ (λ (f : Form) (s : ℕ). later_of f s b) h.0 h.1 ∙ e)

table_turn : (form : Form) (ssrc : ℕ) (i : ℕ) (k : Kept) (b : List ℕ) → Of form ssrc k → fault_of form ssrc b ≡ None
    → Goes (Of form ssrc) (λ r. ⊥) (ecntable.step i k b) (ecntable.step i k b).refusal
table_turn form ssrc i k b h e =
    let r = own_read form ssrc b e in
    rw (table_next k b h r.1) (arrived_of form ssrc k r.0 b h)

pub ended_none : (o : Option Ending) → Ends (λ r. ⊥) o → o ≡ None
ended_none None h = refl
ended_none (Some e) h = absurd h

pub table_accepts : TableAccepts
unfolding walked start_of
table_accepts trace form n ssrc s =
    let t = begun (blocks_of trace).zeroth (start_by (Ok (record { form = form; length = n; ssrc = ssrc }))) in
    rw s.label
    (ended_none (onward (turned 0 t) (walk ecntable 1 (blocks_of trace).others)).ended
    (turn_ends ecntable (Of form ssrc) (λ r. ⊥) 0 t (walk ecntable 1 (blocks_of trace).others) None refl (refl, refl)
    (λ h. walk_ends ecntable (Of form ssrc) (λ r. ⊥) form ssrc (table_turn form ssrc) 1 (blocks_of trace).others t.state h s.own)))

-- and the other way

-- what follows a turn that goes on, and what is refused
pub onward_goes : {S : Type 0} (i : ℕ) (t : Turn S) (rest : S → Runs S) → t.refusal ≡ None → (onward (turned i t) rest).ended ≡ (rest t.state).ended
unfolding onward
onward_goes i t rest e = rw e

pub onward_refused : {S : Type 0} (i : ℕ) (t : Turn S) (rest : S → Runs S) {refusal : Refusal} → t.refusal ≡ Some refusal
    → (onward (turned i t) rest).ended ≡ Some (record { refusal = refusal; block = i })
unfolding onward
onward_refused i t rest e = rw e

accepted_own : (form : Form) (ssrc : ℕ) (i : ℕ) (bs : List (List ℕ)) (k : Kept) → Of form ssrc k → (walk ecntable i bs k).ended ≡ None → AllOwn form ssrc bs
unfolding walk
accepted_own form ssrc i [] k h e = tt
accepted_own form ssrc i (b ∷ bs) k h e = go (later_of form ssrc b) refl (λ n q. accepted_own form ssrc (suc i) bs (record { run = arrived k.run n b; zeroth = k.zeroth }) (arrived_of form ssrc k n b h) q)
  where
    go : (r : Result ℕ Refusal) → later_of form ssrc b ≡ r
        → ((n : ℕ) → (walk ecntable (suc i) bs (record { run = arrived k.run n b; zeroth = k.zeroth })).ended ≡ None → AllOwn form ssrc bs) → AllOwn form ssrc (b ∷ bs)
    go (Ok n) q back =
        let t = taken k (goes (arrived k.run n b)) in
        let turn : ecntable.step i k b ≡ t = ap (taken k) (table_next k b h q) in
        (fault_by_lem form ssrc b q, back n (sym (onward_goes i t (walk ecntable (suc i) bs) refl) ∙ ap (λ (t : Turn Kept). (onward (turned i t) (walk ecntable (suc i) bs)).ended) (sym turn) ∙ e))
    go (Err refusal) q back =
        let t = taken k (refuses refusal) in
        let turn : ecntable.step i k b ≡ t = ap (taken k) (table_next k b h q) in
        let other = sym (onward_refused i t (walk ecntable (suc i) bs) refl) ∙ ap (λ (t : Turn Kept). (onward (turned i t) (walk ecntable (suc i) bs)).ended) (sym turn) ∙ e in
        let z : ◌≡◌ {A = ℕ} 0 1 = cc other in
        absurd (omega arith)

pub accepted_is_sound : AcceptedIsSound
unfolding walked start_of
accepted_is_sound trace e = go (zeroth_of (blocks_of trace).zeroth) refl e
  where
    go : (r : Result Zeroth Refusal) → zeroth_of (blocks_of trace).zeroth ≡ r
        → (onward (turned 0 (begun (blocks_of trace).zeroth (start_by r))) (walk ecntable 1 (blocks_of trace).others)).ended ≡ None
        → (form : Form) × (n : ℕ) × (ssrc : ℕ) × SoundTrace trace form n ssrc
    go (Ok own) q e =
        let t = begun (blocks_of trace).zeroth (start_by (Ok (record { form = own.form; length = own.length; ssrc = own.ssrc }))) in (
          own.form,
          own.length,
          own.ssrc,
          record {
            label = q;
            own = accepted_own own.form own.ssrc 1 (blocks_of trace).others t.state (refl, refl) (sym (onward_goes 0 t (walk ecntable 1 (blocks_of trace).others) refl) ∙ e);
          },
        )
    go (Err refusal) q e =
        let other = sym (onward_refused 0 (begun (blocks_of trace).zeroth (start_by (Err refusal))) (walk ecntable 1 (blocks_of trace).others) refl) ∙ e in
        let z : ◌≡◌ {A = ℕ} 0 1 = cc other in
        absurd (omega arith)

-- ---- ecnforms

abbrev Forming : Form → ℕ → Forms → Type 0
Forming form ssrc k = (k.form ≡ form) × (k.ssrc ≡ ssrc)

abbrev Only17 : Refusal → Type 0
Only17 refusal = refusal ≡ FormTwo

-- records with times, or 17
times_go : (form : Form) (ssrc : ℕ) (k : Forms) (shape : Shape) (records : List Record) → Forming form ssrc k
    → Goes (Forming form ssrc) Only17 (formsTaken k (timed shape records)) (formsTaken k (timed shape records)).refusal
unfolding timed
times_go form ssrc k shape records h = go (all_times shape records)
  where
    go : (t : Bool) → let next : Next (List Record) = cond t (goes records) (refuses FormTwo) in Goes (Forming form ssrc) Only17 (formsTaken k next) (formsTaken k next).refusal
    go true = h
    go false = refl

forms_turn : (form : Form) (ssrc : ℕ) (i : ℕ) (k : Forms) (b : List ℕ) → Forming form ssrc k → fault_of form ssrc b ≡ None
    → Goes (Forming form ssrc) Only17 (ecnforms.step i k b) (ecnforms.step i k b).refusal
unfolding records_of
forms_turn form ssrc i k b h e =
    let r = own_read form ssrc b e in
    let here : later_of k.form k.ssrc b ≡ Ok r.0 = ap₂ (λ (f : Form) (s : ℕ). later_of f s b) h.0 h.1 ∙ r.1 in
    rw here (times_go form ssrc k (shape_of (other_form k.form)) (records_in (shape_of k.form) r.0 (body_of b)) h)

pub forms_refuse_times : FormsRefuseTimes
unfolding walked
forms_refuse_times trace form n ssrc e s q =
    let t = formsBegun (blocks_of trace).zeroth (Ok (record { form = form; length = n; ssrc = ssrc })) in
    let ends = turn_ends ecnforms (Forming form ssrc) Only17 0 t (walk ecnforms 1 (blocks_of trace).others) None refl (refl, refl)
    (λ h. walk_ends ecnforms (Forming form ssrc) Only17 form ssrc (forms_turn form ssrc) 1 (blocks_of trace).others t.state h s.own) in
    let begins : ecnforms.begin (blocks_of trace).zeroth ≡ t = ap (formsBegun (blocks_of trace).zeroth) s.label in
    subst (Ends Only17) (ap (λ (t : Turn Forms). (onward (turned 0 t) (walk ecnforms 1 (blocks_of trace).others)).ended) (sym begins) ∙ q) ends
