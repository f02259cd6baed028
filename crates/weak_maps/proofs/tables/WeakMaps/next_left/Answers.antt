use Rattle.std.proofs.Common.{◌∙◌, IfSome, ap, refl, subst, sym}
use Rattle.std.specs.Option.{option_map}
use Rattle.weak_maps.specs.Entries.{value_at}
use Rattle.weak_maps.specs.WeakMaps.{HasLooked, LooksState, state_with}
use Rattle.weak_maps.proofs.Kept.{HasLooked-row, IsSound-kept, entry_with, kept_looks}
use Rattle.weak_maps.proofs.tables.WeakMaps.next_left.Goals as goal

pub invariant_of-self : goal.invariant_of-self
invariant_of-self c =
    kept_looks c.self.inside.entries c.next_left.new.self c.self.inside.delegates c.self.inside.delegates
    c.self.invariant c.next_left.ensures.table c.next_left.ensures.sound c.next_left.ensures.parallel refl
    c.self.invariant.rows

pub returns-in-Some-clause-sound : goal.returns-in-Some-clause-sound
returns-in-Some-clause-sound c =
    IsSound-kept c.next_left.new.self c.self.inside.delegates
    (kept_looks c.self.inside.entries c.next_left.new.self c.self.inside.delegates c.self.inside.delegates
    c.self.invariant c.next_left.ensures.table c.next_left.ensures.sound c.next_left.ensures.parallel refl
    c.self.invariant.rows)

pub invariant_of-self-in_err-key : goal.invariant_of-self-in_err-key
invariant_of-self-in_err-key c =
    kept_looks c.self.inside.entries c.next_left.new.self c.self.inside.delegates c.next_left-2.new.self
    c.self.invariant c.next_left.ensures.table c.next_left.ensures.sound c.next_left.ensures.parallel
    c.next_left-2.ensures.rows c.next_left-2.ensures.sound

pub returns-in_err-key-clause-sound : goal.returns-in_err-key-clause-sound
returns-in_err-key-clause-sound c =
    IsSound-kept c.next_left.new.self c.next_left-2.new.self
    (kept_looks c.self.inside.entries c.next_left.new.self c.self.inside.delegates c.next_left-2.new.self
    c.self.invariant c.next_left.ensures.table c.next_left.ensures.sound c.next_left.ensures.parallel
    c.next_left-2.ensures.rows c.next_left-2.ensures.sound)

pub invariant_of-self-2 : goal.invariant_of-self-2
invariant_of-self-2 c =
    kept_looks c.self.inside.entries c.next_left.new.self c.self.inside.delegates c.next_left-2.new.self
    c.self.invariant c.next_left.ensures.table c.next_left.ensures.sound c.next_left.ensures.parallel
    c.next_left-2.ensures.rows c.next_left-2.ensures.sound

pub returns-clause-sound : goal.returns-clause-sound
returns-clause-sound c =
    IsSound-kept c.next_left.new.self c.next_left-2.new.self
    (kept_looks c.self.inside.entries c.next_left.new.self c.self.inside.delegates c.next_left-2.new.self
    c.self.invariant c.next_left.ensures.table c.next_left.ensures.sound c.next_left.ensures.parallel
    c.next_left-2.ensures.rows c.next_left-2.ensures.sound)

pub returns-clause-some : goal.returns-clause-some
returns-clause-some c =
    let old = state_with c.self.inside.entries c.self.inside.delegates in
    let new : LooksState = record {
      by_map = c.next_left.new.self.looks.by_map;
      by_key = c.next_left.new.self.looks.by_key;
      by_delegate = c.next_left-2.new.self.by_target.left;
    } in
    let same = c.in_default.ensures.none.0 in
    let key = c.in_ok-key.key in
    let it = HasLooked-row old.table old.looks new c.args.colour key c.entry_of.result
    (IsSound-kept c.self.inside.entries c.self.inside.delegates c.self.invariant) c.in_ok-key.ensures.some
    (λ i. record { by_map = (same i).by_map; by_key = (same i).by_key; by_delegate = new.by_delegate })
    (c.entry_of.ensures
    ∙ ap (λ t. option_map (entry_with key) (value_at t.entries key.map key.key)) c.next_left.ensures.table) in
    rw (← c.self.view_is)
    (subst (λ r. IfSome r (λ e. HasLooked c.args.colour e old.table old.looks new)) (sym it.1) it.2)

pub returns-clause-none : goal.returns-clause-none
returns-clause-none c =
    let old = state_with c.self.inside.entries c.self.inside.delegates in
    let new : LooksState = record {
      by_map = c.next_left.new.self.looks.by_map;
      by_key = c.next_left.new.self.looks.by_key;
      by_delegate = c.next_left-2.new.self.by_target.left;
    } in
    let same = c.in_default.ensures.none.0 in
    let key = c.in_ok-key.key in
    let it = HasLooked-row old.table old.looks new c.args.colour key c.entry_of.result
    (IsSound-kept c.self.inside.entries c.self.inside.delegates c.self.invariant) c.in_ok-key.ensures.some
    (λ i. record { by_map = (same i).by_map; by_key = (same i).by_key; by_delegate = new.by_delegate })
    (c.entry_of.ensures
    ∙ ap (λ t. option_map (entry_with key) (value_at t.entries key.map key.key)) c.next_left.ensures.table) in
    rw it.1 tt
