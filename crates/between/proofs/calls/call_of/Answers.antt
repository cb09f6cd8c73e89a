use Rattle.std.specs.Prelude.{Option}
use Rattle.between.specs.declared.calls.Kept.{Kept}
use mathlib.Core.Path.{◌≡◌, sym, ◌∙◌, ap}
use Rattle.between.specs.PacketCalls.{ecn_report_of, counts_since, call_of}
use Rattle.between.proofs.calls.call_of.Goals.{After-counts_since}
use Rattle.between.proofs.calls.call_of.Goals as goal

-- the counts, as the program has them
since : (c : After-counts_since) → let a = c.args in c.counts_since.result ≡ counts_since (ecn_report_of a.packet) a.earlier
since c =
    let a = c.args in
    c.counts_since.ensures ∙ ap (λ (k : Option Kept). counts_since k a.earlier) c.ecn_report_of-new.ensures

pub returns-then-not-packet : goal.returns-then-not-packet
unfolding call_of
returns-then-not-packet c = rw c.if-not-packet.true

pub returns-in-Some : goal.returns-in-Some
unfolding call_of
returns-in-Some c =
    let counts = sym (since (goal.at.returns-in-Some c).After-counts_since) ∙ c.in-Some.is in
    rw (c.if-not-packet.false, counts, c.highest_in-highest.ensures)

pub returns-in-Some-report : goal.returns-in-Some-report
unfolding call_of
returns-in-Some-report c =
    let none = sym (since (goal.at.returns-in-Some-report c).After-counts_since) ∙ c.in_default.is in
    rw (c.if-not-packet.false, none, c.highest_in-highest.ensures, c.in-Some-report.is, c.from.ensures)

pub returns-in-Some-new : goal.returns-in-Some-new
unfolding call_of
returns-in-Some-new c =
    let none = sym (since (goal.at.returns-in-Some-new c).After-counts_since) ∙ c.in_default.is in
    let new = sym c.ecn_report_of-new.ensures ∙ c.in-Some-new.is in
    rw (c.if-not-packet.false, none, c.highest_in-highest.ensures, new, c.in_default-report.is)

pub returns-in-None : goal.returns-in-None
unfolding call_of
returns-in-None c =
    let none = sym (since (goal.at.returns-in-None c).After-counts_since) ∙ c.in_default.is in
    let new = sym c.ecn_report_of-new.ensures ∙ c.in-None.is in
    rw (c.if-not-packet.false, none, new, c.in_default-report.is)
