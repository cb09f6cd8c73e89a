-- Demand 3 for each source of a table. Assumes nothing.
use Rattle.std.specs.Prelude.{Option, Some, None}
use mathlib.Core.Path.{◌≡◌, refl, sym, ap, ap₂, ◌∙◌, subst}
use mathlib.Core.Bool.{Bool, true, false, cond, false≢true}
use mathlib.Core.List.{List, [], ◌∷◌, ◌++◌, map}
use Prim.Native.Nat.{ℕ, ◌^◌, ◌≤◌}
use native.Mathlib.Omega.{arith}
use borrow.Author.Tests.{eqb-true}
use lib.Dec.{eqb}
use lib.IntN.{ℤ}
use lib.ListN.{length}
use Rattle.answers.proofs.Conditions.{and_left, and_right}
use Rattle.numbers.specs.Integers.{modulo}
use Rattle.format.specs.declared.Counts.{Counts}
use Rattle.source.specs.declared.Source.{Source}
use Rattle.source.specs.Record as Record
use Rattle.source.specs.Record.{fresh_record, sound}
use Rattle.source.proofs.Facts.{fresh_sound}
use Rattle.sources.specs.declared.Place.{Place}
use Rattle.sources.specs.Places.{held_of}
use Rattle.sources.specs.Rules.{fault}
use Rattle.sources.specs.Stands.{found, is_new, record_in, record_of}
use Rattle.demands.specs.Calls.{TruePacket, run_from, AnsweredFrom, run, arrivals}
use Rattle.demands.specs.Count.{base_of, greatest_in, count, counts_in}
use Rattle.demands.specs.PrintedTable.{of_arrival}
use Rattle.demands.specs.EachSource.{ssrcs_fit, only_feedback, Call, named, Fits, AllFit, behind_call, behind_all, seated_call, places_suffice, brought, seen, Brings, Answered, AllAnswered, EachSource}
use Rattle.demands.proofs.Steady.{count_arrivals, count_highest}
use Rattle.demands.proofs.Runs.{arrivals_marks, run_sound}
use Rattle.demands.proofs.Demand.{count_lost, count_counts, demand3}
use Rattle.demands.proofs.Traces.{split, run_parts, answers_front, answers_behind}
use Rattle.demands.proofs.Compounds.{feedback_about}
use Rattle.demands.proofs.ReadBack.{table_read}
use Rattle.demands.proofs.OneCall.{good_behind, ssrcs_behind, others_stay, own_counts}

-- ---- the calls one after the other

-- the first call, which brings the packets `front` to the source if it names it, and else none
module _ (ps : List Place) (good : fault ps ≡ None) (c : Call) (h : Fits c) (ssrc : ℕ) (seat : cond (eqb (named c) ssrc) (seated_call ps c) true ≡ true) where
  record First (front : List TruePacket) : Type 0 where
    state : record_of ssrc (behind_call ps c) ≡ run_from (record_of ssrc ps) front
    answer : eqb (named c) ssrc ≡ true → Answered ps c

  first : (t : Bool) → eqb (named c) ssrc ≡ t → (front : List TruePacket) → cond t (brought c) [] ≡ map of_arrival front → AnsweredFrom (record_of ssrc ps) front → First front
  first true e front same a =
      let is : named c ≡ ssrc = eqb-true (named c) ssrc e in
      let seated : seated_call ps c ≡ true = sym (ap (λ (t : Bool). cond t (seated_call ps c) true) e) ∙ seat in
      let own = own_counts ps good c h seated front same (subst (λ (k : ℕ). AnsweredFrom (record_of k ps) front) (sym is) a) in
      record { state = subst (λ (k : ℕ). record_of k (behind_call ps c) ≡ run_from (record_of k ps) front) is own.state; answer = λ _. own.answer }
  first false e [] same a = record { state = others_stay ps good c h ssrc e; answer = λ f. absurd (false≢true (sym e ∙ f)) }
  first false e (v ∷ vs) same a = let z : ◌≡◌ {A = ℕ} 0 1 = cc in absurd (omega arith)

-- what comes of calls whose packets for the source are accepted
record Behind (ps : List Place) (calls : List Call) (ssrc : ℕ) (vs : List TruePacket) : Type 0 where
  good : fault (behind_all ps calls) ≡ None
  ssrcs : ssrcs_fit (held_of (behind_all ps calls)) ≡ true
  state : record_of ssrc (behind_all ps calls) ≡ run_from (record_of ssrc ps) vs
  answers : AllAnswered ssrc ps calls

behind_all_lem : (ps : List Place) (calls : List Call) (ssrc : ℕ) (vs : List TruePacket) → fault ps ≡ None → ssrcs_fit (held_of ps) ≡ true → AllFit calls
    → places_suffice ssrc ps calls ≡ true → seen ssrc calls ≡ map of_arrival vs → AnsweredFrom (record_of ssrc ps) vs → Behind ps calls ssrc vs
behind_all_lem ps [] ssrc [] good fit h suffice same a = record { good = good; ssrcs = fit; state = refl; answers = tt }
behind_all_lem ps [] ssrc (v ∷ vs) good fit h suffice same a = let z : ◌≡◌ {A = ℕ} 0 1 = cc in absurd (omega arith)
behind_all_lem ps (c ∷ calls) ssrc vs good fit h suffice same a =
    let r : Source = record_of ssrc ps in
    let s = split (cond (eqb (named c) ssrc) (brought c) []) (seen ssrc calls) vs same in
    let parts : AnsweredFrom r (s.front ++ s.back) = subst (AnsweredFrom r) s.is a in
    let seat : cond (eqb (named c) ssrc) (seated_call ps c) true ≡ true = and_left (cond (eqb (named c) ssrc) (seated_call ps c) true) (places_suffice ssrc (behind_call ps c) calls) suffice in
    let one = first ps good c h.0 ssrc seat (eqb (named c) ssrc) refl s.front s.first (answers_front r s.front s.back parts) in
    let next : AnsweredFrom (record_of ssrc (behind_call ps c)) s.back = subst (λ (u : Source). AnsweredFrom u s.back) (sym one.state) (answers_behind r s.front s.back parts) in
    let more = behind_all_lem (behind_call ps c) calls ssrc s.back (good_behind ps c h.0 good) (ssrcs_behind ps c h.0 fit) h.1 (and_right (cond (eqb (named c) ssrc) (seated_call ps c) true) (places_suffice ssrc (behind_call ps c) calls) suffice) s.more next in
    record {
      good = more.good;
      ssrcs = more.ssrcs;
      state = more.state ∙ ap (λ (u : Source). run_from u s.back) one.state ∙ sym (run_parts r s.front s.back) ∙ ap (run_from r) (sym s.is);
      answers = (one.answer, more.answers);
    }

-- ---- the source's record at the end

-- one that has counted is held
held_place : (f : Option Source) (s : Source) → record_in f ≡ s → 1 ≤ Record.arrivals s → f ≡ Some s
held_place (Some t) s e h = ap Some e
held_place None s e h = absurd (omega (arith, ap Record.arrivals e))

fresh_of : (f : Option Source) → is_new f ≡ true → record_in f ≡ fresh_record
fresh_of None e = refl
fresh_of (Some s) e = absurd (false≢true e)

module _ (ps : List Place) (calls : List Call) (ssrc : ℕ) (tps : List TruePacket) (h : Brings ps calls ssrc tps) where
  begins : record_of ssrc ps ≡ fresh_record
  begins = fresh_of (found ssrc (held_of ps)) h.new

  whole : Behind ps calls ssrc tps
  whole =
      behind_all_lem ps calls ssrc tps h.good h.ssrcs h.fit h.suffice h.same
      (subst (λ (s : Source). AnsweredFrom s tps) (sym begins) (demand3 tps h.described).answers)

  ends : record_of ssrc (behind_all ps calls) ≡ run tps
  ends = whole.state ∙ ap (λ (s : Source). run_from s tps) begins

  counted : record_of ssrc (behind_all ps calls) ≡ count (arrivals tps)
  counted = ends ∙ (demand3 tps h.described).state

  placed : 1 ≤ length (arrivals tps) → found ssrc (held_of (behind_all ps calls)) ≡ Some (count (arrivals tps))
  placed some_arrive =
      held_place (found ssrc (held_of (behind_all ps calls))) (count (arrivals tps)) counted
      (omega (arith, count_arrivals (base_of (arrivals tps)) (arrivals tps) (arrivals_marks tps)))

pub each_source : EachSource
each_source ps calls ssrc tps h =
    record {
      answers = (whole ps calls ssrc tps h).answers;
      good = (whole ps calls ssrc tps h).good;
      state = counted ps calls ssrc tps h;
      place = placed ps calls ssrc tps h;
      feedback = λ sender profile hs some_arrive.
          table_read (behind_all ps calls) sender profile (whole ps calls ssrc tps h).good (whole ps calls ssrc tps h).ssrcs hs ssrc
          ∙ ap (λ (f : Option Source). only_feedback (feedback_about sender f)) (placed ps calls ssrc tps h some_arrive)
          ∙ carried sender;
      order = λ qs others tqs g same first. ends ps calls ssrc tps h ∙ (demand3 tps h.described).order tqs g.described same first ∙ sym (ends qs others ssrc tqs g);
    }
  where
    good : sound (count (arrivals tps)) ≡ true
    good = ap sound (sym (demand3 tps h.described).state) ∙ run_sound fresh_record tps fresh_sound

    carried : (sender : ℕ) → only_feedback (feedback_about sender (Some (count (arrivals tps))))
        ≡ only_feedback (Some (record { sender = sender; highest = modulo (2 ^ 32) (greatest_in (arrivals tps)); counts = counts_in (arrivals tps) }))
    carried sender =
        ap₂ (λ (z : ℤ) (c : Counts). only_feedback (Some (record { sender = sender; highest = modulo (2 ^ 32) z; counts = c })))
        (count_highest (base_of (arrivals tps)) (arrivals tps))
        (count_counts (arrivals tps) (count_lost (arrivals tps) (arrivals_marks tps) good))
