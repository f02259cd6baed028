use Rattle.std.proofs.Common.{◌≡◌, ◌↔◌, [], inl, inr, Err, None, OnOk, refl, rules, subst}
use Rattle.slice_driver.specs.Accounts.{FreesOn}
use Rattle.slice_driver.specs.Begins.{AreMade}
use Rattle.slice_driver.specs.declared.begin.BeginFault.TheVariants.{NoZone}
use Rattle.slice_driver.specs.Sessions.{SessionState}
use Rattle.slice_driver.specs.Units.{BeginsIn, BeginsWithin}
use Rattle.slice_driver.proofs.marking.Accounts.{begins_on}
use Rattle.slice_driver.proofs.marking.Sessions.{begin_words}
use Rattle.slice_driver.proofs.taking_in.TakingDue.{out_kept}
use Rattle.slice_driver.proofs.session.Session.begin.Goals as goal

pub invariant_of-self : goal.invariant_of-self
invariant_of-self g c = (
  c.begin.ensures.sound (g.S.Flight.bits c.self.inside.sweeper) c.self.invariant.0,
  out_kept _ _ _ _ refl (begin_words c.begin.result c.self.inside.collector c.begin.new.self c.begin.ensures.words
      c.begin.ensures.refused) c.self.invariant.1,
)

pub returns-clause-begun : goal.returns-clause-begun
returns-clause-begun g c = subst
    (λ (x : SessionState _). OnOk c.begin.result (BeginsIn x.collector c.args.zones.bits c.begin.new.self))
    c.self.view_is c.begin.ensures.begun

pub returns-clause-within : goal.returns-clause-within
returns-clause-within g c = subst
    (λ (x : SessionState _). OnOk c.begin.result (BeginsWithin x.collector c.args.zones.bits c.begin.new.self))
    c.self.view_is c.begin.ensures.within

pub returns-in_default-clause-no_zone : goal.returns-in_default-clause-no_zone
returns-in_default-clause-no_zone g c =
    let idle : c.args.self.now.collector.run ≡ None = search (rules, c.running.ensures.run, c.if-running.false) in
    (λ e. (idle, inl c.in_default.ensures.none), λ h. refl)

pub returns-clause-no_zone : goal.returns-clause-no_zone
returns-clause-no_zone g c =
    let same = subst (λ (x : SessionState _). (c.begin.result ≡ Err NoZone)
    ↔ ((x.collector.run ≡ None) × (AreMade x.collector.heap.shape c.args.zones → ⊥)))
    c.self.view_is c.begin.ensures.no_zone in (
      λ e. (let p = same.0 e in (p.0, inr p.1)),
      λ h. elim h.1 [
        | inl none ↦ absurd (none _ c.in-Some.ensures.some)
        | inr other ↦ same.1 (h.0, other)
      ],
    )

pub returns-clause-accounts : goal.returns-clause-accounts
returns-clause-accounts g c = subst
    (λ (x : SessionState _). FreesOn x.collector (g.S.Flight.bits x.sweeper) [] c.begin.new.self
    (g.S.Flight.bits c.self.inside.sweeper))
    c.self.view_is (begins_on _ _ _ c.begin.result c.args.zones.bits c.begin.ensures.begun c.begin.ensures.refused)
