-- Named by a weak slot and watched: the answers are lawful, and are not where the slot keeps the cell. Then a
-- compaction: its answers are lawful, and are not where the arena is kept.
use Rattle.std.proofs.Common.{◌≡◌, inl, inr, List, [], ◌∷◌, Bool, true, false, ◌||◌, if◌then◌else◌}
use Rattle.std.proofs.Common.{refl, sym, ap, subst, ◌∙◌, arith, Some, None, Contains, is_some}
use Rattle.std.proofs.Common.{replicate, slice_set}
use Rattle.std.specs.Prelude.{count_by}
use Rattle.std.specs.List.{list_any}
use Rattle.std.specs.Ordering.{eq_by_cmp}
use Rattle.std.specs.FinSet as set
use Rattle.std.specs.FinMap as map
use Rattle.gz_names.specs.Order.{name_cmp}
use Rattle.gz_names.specs.declared.names.Name.{Name}
use Rattle.gz_names.specs.declared.names.Name.TheVariants.{Cell}
use Rattle.gz_names.specs.declared.commands.GraphCmd.TheVariants as cmd
use Rattle.gz_names.specs.declared.commands.WeakCmd.TheVariants as weak_cmd
use Rattle.gz_names.specs.declared.commands.Cmd.TheVariants.{Weak, Collect, Compact}
use Rattle.gz_names.specs.declared.replies.Reply.TheVariants as reply
use Rattle.gz_names.specs.declared.replies.Report.TheVariants.{Started, Groups, Ended, Swept, Done}
use Rattle.colour_defs.specs.Graph.{is_in_zones}
use Rattle.colour_defs.specs.Step.{step_of}
use Rattle.colour_defs.specs.World.{World, WeakNames, Has, IsPresent, no_weak_names}
use Rattle.colour_defs.specs.WeakRefs.{LosesWeak, with_weak_slot, with_watched}
use Rattle.colour_defs.specs.Compaction.{Compacts}
use Rattle.colour_defs.specs.Lawful.{Answers, IsLawfulOutput}
use Rattle.spec_rows.specs.Rows.{only_zone_0, weakly_named, answers_weakly_named, compacted}
use Rattle.spec_rows.specs.Rows.{answers_compacted}
use Rattle.colour_defs.proofs.Lists.{nothing_in_none, contains_head}
use Rattle.colour_defs.proofs.Names.{eq_name-refl}
use Rattle.colour_defs.proofs.ValidCommands.{insert_has}
use Rattle.colour_defs.proofs.Finite.{no_name, insert_cases}
use Rattle.spec_rows.proofs.Places.{place_named, single}
use Rattle.spec_rows.proofs.OneZone.{prepares_one, units_collect}
use Rattle.spec_rows.proofs.OneGarbage.{one_place, garbage_begun, garbage_grouped, garbage_ended, garbage_freed}
use Rattle.spec_rows.proofs.OneGarbage.{garbage_begins, garbage_gone, garbage_units}
use Rattle.spec_rows.proofs.GivenUp.{w3, a3}
use Rattle.spec_rows.proofs.LinkedAndDropped.{w1, w2, a1, a2}

abbrev kept : WeakNames
kept = record { slots = slice_set (replicate 64 None) 0 (Some (Cell 0)); watched = set.insert set.empty (Cell 0) }

abbrev told : List Name
told = Cell 0 ∷ []

abbrev w4 : World
w4 = with_weak_slot w3 0 (Some (Cell 0))

abbrev w5 : World
w5 = with_watched w4 (Cell 0)

abbrev w6 : World
w6 = record w5 { graph = (step_of w5.graph (cmd.Drop 0)).0 }

abbrev ended : World
ended = garbage_ended 1 kept no_weak_names told

abbrev w7 : World
w7 = garbage_freed 1 kept no_weak_names told

abbrev w8 : World
w8 = record w7 { graph = record w7.graph { registers = slice_set w7.graph.registers 1 None } }

present : (x : Name) → IsPresent w6 x → Cell 0 ≡ x
present x h = single (Cell 0) x (place_named ((Cell 0, (0, 0)) ∷ []) x (sym (ap is_some (one_place x)) ∙ h))

none_left : (x : Name) → IsPresent ended x → ⊥
none_left x h = garbage_gone 1 kept no_weak_names told x h

not_present : map.contains_key ended.places (Cell 0) ≡ false
not_present = go (map.contains_key ended.places (Cell 0)) refl
  where
    go : (b : Bool) → map.contains_key ended.places (Cell 0) ≡ b → map.contains_key ended.places (Cell 0) ≡ false
    go true e = absurd (none_left (Cell 0) e)
    go false e = e

watched : (x : Name) → Has kept.watched x → Cell 0 ≡ x
watched x h = elim (insert_cases set.empty (Cell 0) x h) [ inl none ↦ absurd (no_name x none) | inr e ↦ e ]

loses : LosesWeak (garbage_grouped 1 kept no_weak_names told) told ended
loses = record {
  slots_are = ap (λ b. (if b then Some (Cell 0) else None) ∷ replicate 63 None) (sym not_present);
  watched_are = λ x. ((λ h. absurd (no_name x h)), λ h. absurd (none_left x h.1));
  told_are = record {
    ascending = (tt, tt);
    has = λ x. (
      (λ c. (
        subst (λ z. Has kept.watched z) (single (Cell 0) x c) (insert_has set.empty (Cell 0)),
        λ p. none_left x p,
      )),
      λ h. subst (λ z. Contains (Cell 0 ∷ []) z) (watched x h.0) (contains_head (Cell 0) []),
    );
  };
}

in_black : (x : Name) → Has w6.black x → Cell 0 ≡ x
in_black x h = watched x h

collected : Answers w6 (Collect only_zone_0)
    (Started ∷ Groups (only_zone_0 ∷ []) ∷ Ended only_zone_0 [] told ∷ Swept 0 (Cell 0 ∷ []) ∷ Done ∷ [])
    reply.Collected w7
collected = units_collect w6 (garbage_begun 1 kept no_weak_names told) w7 [] told (Cell 0 ∷ [])
    (prepares_one w6 (record { none_running = refl; none_preparing = refl }) (omega arith)
    (λ x h. subst (λ z. is_in_zones w6.graph (0 ∷ []) z ≡ true) (in_black x h) refl))
    (garbage_begins 1 kept no_weak_names told) (garbage_units 1 kept no_weak_names told loses)
    (record { none_running = refl; none_preparing = refl })

read : Answers w7 (Weak (weak_cmd.Deref 1 0)) [] reply.Null w8
read = (refl, (refl, refl))

-- the run up to the compaction
pub weakly_named_lawful : IsLawfulOutput weakly_named (answers_weakly_named reply.Null)
weakly_named_lawful = (
  w8,
  (
    w1,
    a1,
    (
      w2,
      a2,
      (
        w3,
        a3,
        (
          w4,
          (refl, (refl, refl)),
          (w5, (refl, (refl, refl)), (w6, (refl, (refl, refl)), (w7, collected, (w8, read, refl)))),
        ),
      ),
    ),
  ),
)

abbrev w9 : World
w9 = record w8 { owner = None ∷ [] }

-- a map with nothing in it has no keys
pub no_keys : {X : Type 0} (m : map.FinMap name_cmp X) → ((x : Name) → map.contains_key m x ≡ true → ⊥)
    → map.keys m ≡ []
no_keys m none = go (map.keys m) refl
  where
    go : (ks : List Name) → map.keys m ≡ ks → map.keys m ≡ []
    go [] e = e
    go (k ∷ ks) e = absurd
        (none k (map.contains_key-keys m k ∙ ap (λ l. list_any (eq_by_cmp name_cmp k) l) e
        ∙ ap (λ b. b || list_any (eq_by_cmp name_cmp k) ks) (eq_name-refl k)))

none_counted : count_by (λ x. is_in_zones w8.graph (0 ∷ []) x) (map.keys w8.places) ≡ 0
none_counted = ap (λ ks. count_by (λ x. is_in_zones w8.graph (0 ∷ []) x) ks) (no_keys w8.places none_left)

compacts : Compacts w8 0 0 1 w9
compacts = record {
  idle = record { none_running = refl; none_preparing = refl };
  made = omega arith;
  kept = [];
  given_up = 0 ∷ [];
  arenas_are = refl;
  few = (let n = none_counted in omega (arith, n), let n = none_counted in omega (arith, n));
  movers = [];
  movers_are = λ x. ((λ c. absurd (nothing_in_none x c)), λ h. absurd (none_left x (ap is_some h.1)));
  in_order = tt;
  are_moved = refl;
  world_is = refl;
  moved_is = refl;
  given_is = refl;
}

pub compacted_lawful : IsLawfulOutput compacted (answers_compacted 1)
compacted_lawful = (
  w9,
  (
    w1,
    a1,
    (
      w2,
      a2,
      (
        w3,
        a3,
        (
          w4,
          (refl, (refl, refl)),
          (w5, (refl, (refl, refl)), (w6, (refl, (refl, refl)), (w7, collected, (w8, read, (w9, done, refl))))),
        ),
      ),
    ),
  ),
)
  where
    done : Answers w8 (Compact 0) [] (reply.Compacted 0 1) w9
    done = inl (0, 1, refl, refl, compacts)
