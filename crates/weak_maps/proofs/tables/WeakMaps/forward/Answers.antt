use Rattle.std.proofs.Common.{List, inl, inr, sym, ap, subst}
use Rattle.weak_maps.specs.Delegates.{DelegateRow, DelegateTableState}
use Rattle.weak_maps.specs.Entries.{EntriesState}
use Rattle.weak_maps.specs.Moving.{AreNamed, AreNamedByRows, IsNamed}
use Rattle.weak_maps.specs.WeakMaps.{HaveEntries, WeakMapsState}
use Rattle.weak_maps.proofs.Forwarding.{GoApart-less, entered-gone}
use Rattle.weak_maps.proofs.Kept.{IsSound-kept}
use Rattle.weak_maps.proofs.tables.WeakMaps.forward.Goals as goal

pub forwarded-requires : goal.forwarded-requires
forwarded-requires c =
    GoApart-less (IsNamed c.args.self.now.table) (AreNamedByRows c.self.inside.delegates.rows) c.args.moves.now
    (λ p named. subst (λ (w : WeakMapsState). IsNamed w.table p) c.self.view_is (inr named)) c.requires

pub returns-in_err-rows-clause-sound : goal.returns-in_err-rows-clause-sound
returns-in_err-rows-clause-sound c =
    rw (← c.self.view_is) (IsSound-kept c.self.inside.entries c.self.inside.delegates c.self.invariant)

pub forward-requires : goal.forward-requires
forward-requires c =
    GoApart-less (IsNamed c.args.self.now.table) (AreNamed c.self.inside.entries.table.entries) c.args.moves.now
    (λ p named. subst (λ (w : WeakMapsState). IsNamed w.table p) c.self.view_is (inl named)) c.requires

pub returns-in_err-forward-clause-sound : goal.returns-in_err-forward-clause-sound
returns-in_err-forward-clause-sound c = IsSound-kept c.forward.new.self c.self.inside.delegates (record {
  entries = c.forward.ensures.sound;
  looks = c.forward.ensures.parallel;
  rows = c.self.invariant.rows;
  entered = subst (λ (e : EntriesState). HaveEntries c.self.inside.delegates.rows e.table.entries)
      (sym c.in_err-forward.ensures.err) c.self.invariant.entered;
})

pub set_rows-requires : goal.set_rows-requires
set_rows-requires c = (
  c.args.moves.now,
  c.in_ok-rows.ensures.forwarded,
  GoApart-less (IsNamed c.args.self.now.table) (AreNamedByRows c.self.inside.delegates.rows) c.args.moves.now
      (λ p named. subst (λ (w : WeakMapsState). IsNamed w.table p) c.self.view_is (inr named)) c.requires,
)

pub invariant_of-self-2 : goal.invariant_of-self-2
invariant_of-self-2 c =
    let moves = c.args.moves.now in
    let old = c.self.inside in
    let shown = (c.set_rows.ensures.forwarded moves c.in_ok-rows.ensures.forwarded).0 in
    record {
      entries = c.forward.ensures.sound;
      looks = c.forward.ensures.parallel;
      rows = c.set_rows.ensures.sound;
      entered = subst (λ (rs : List DelegateRow). HaveEntries rs c.forward.new.self.table.entries)
          (sym (ap (λ (d : DelegateTableState). d.rows) shown))
          (entered-gone moves old.delegates.rows old.entries.table.entries c.forward.new.self.table.entries (record {
            gone = ap (λ (e : EntriesState). e.table.entries) c.in_ok-forward.ensures.ok;
            found = λ m k v. (c.self.invariant.entries.found m k v).1;
            finds = λ m k v. (c.forward.ensures.sound.found m k v).0;
          }) c.self.invariant.entered);
    }

pub returns-clause-sound : goal.returns-clause-sound
returns-clause-sound c =
    let moves = c.args.moves.now in
    let old = c.self.inside in
    let shown = (c.set_rows.ensures.forwarded moves c.in_ok-rows.ensures.forwarded).0 in
    IsSound-kept c.forward.new.self c.set_rows.new.self (record {
      entries = c.forward.ensures.sound;
      looks = c.forward.ensures.parallel;
      rows = c.set_rows.ensures.sound;
      entered = subst (λ (rs : List DelegateRow). HaveEntries rs c.forward.new.self.table.entries)
          (sym (ap (λ (d : DelegateTableState). d.rows) shown))
          (entered-gone moves old.delegates.rows old.entries.table.entries c.forward.new.self.table.entries (record {
            gone = ap (λ (e : EntriesState). e.table.entries) c.in_ok-forward.ensures.ok;
            found = λ m k v. (c.self.invariant.entries.found m k v).1;
            finds = λ m k v. (c.forward.ensures.sound.found m k v).0;
          }) c.self.invariant.entered);
    })
