-- Lawful runs lead through valid worlds.
use Rattle.std.proofs.Common.{◌≡◌, ℕ, inl, inr, List, [], ◌∷◌, refl, sym, ap, subst, Option, Some, None, is_some}
use Rattle.std.proofs.Common.{slice_index_or, replicate}
use Rattle.gz_names.specs.Zones.{zones_in}
use Rattle.std.specs.FinSet as set
use Rattle.std.specs.FinMap as map
use Rattle.gz_names.specs.Order.{name_cmp}
use Rattle.gz_names.specs.declared.names.Name.{Name}
use Rattle.gz_names.specs.declared.names.Name.TheVariants.{Cell, Wrap}
use Rattle.colour_defs.specs.Closure.{HasEdge}
use Rattle.colour_defs.specs.World.{World, Has, IsPresent, first_world}
use Rattle.gz_names.specs.declared.replies.Report.{Report}
use Rattle.gz_names.specs.declared.commands.Cmd.TheVariants.{Graph, Weak, Gc, Slice, Finish, Collect, Reset, Colours}
use Rattle.gz_names.specs.declared.commands.Cmd.TheVariants.{Dump, Compact}
use Rattle.gz_names.specs.declared.commands.Cmd.{Cmd}
use Rattle.gz_names.specs.declared.replies.Reply.{Reply}
use Rattle.colour_defs.specs.Lawful.{Answers, Slices, Run, RefusesToBegin, RefusesIdle}
use Rattle.colour_defs.specs.Laws.{IsValid}
use Rattle.colour_defs.proofs.Lists.{get_contains, no_name_in_nulls}
use Rattle.colour_defs.proofs.ValidCommands.{command_valid}
use Rattle.colour_defs.proofs.ValidWeak.{weak_valid}
use Rattle.colour_defs.proofs.ValidCompaction.{compact_valid}
use Rattle.colour_defs.proofs.ValidReports.{units_valid, prepare_valid, reset_valid, retallied_valid}
use Rattle.colour_defs.proofs.ValidReports.{spent_retallied, preparing_respent}

slice_valid : (w : World) (reports : List Report) (n : ℕ) (v : World) → IsValid w → Slices w reports n v → IsValid v
slice_valid w reports n v ok s =
    subst (λ z. IsValid z) (sym s.world_is)
    (retallied_valid s.after s.after.out s.after.white (units_valid w s.units s.after ok s.done)
    (spent_retallied n s.after.collection) refl (preparing_respent n s.after.preparing) refl)

refused_valid : (w : World) (zones : List ℕ) (reports : List Report) (answer : Reply) (v : World) → IsValid w
    → RefusesToBegin w zones reports answer v → IsValid v
refused_valid w zones reports answer v ok (inl h) = subst (λ z. IsValid z) (sym h.2.same) ok
refused_valid w zones reports answer v ok (inr h) = subst (λ z. IsValid z) (sym h.3.same) ok

idle_valid : (w : World) (reports : List Report) (answer : Reply) (v : World) → IsValid w
    → RefusesIdle w reports answer v → IsValid v
idle_valid w reports answer v ok h = subst (λ z. IsValid z) (sym h.2.same) ok

pub answer_valid : (w : World) (c : Cmd) (reports : List Report) (answer : Reply) (v : World)
    → IsValid w → Answers w c reports answer v → IsValid v
answer_valid w (Graph c) reports answer v ok h = command_valid w v c answer ok h.1
answer_valid w (Weak c) reports answer v ok h = weak_valid w v c answer ok h.1
answer_valid w (Gc zones) reports answer v ok (inl h) = prepare_valid w (zones_in zones) v ok h.2
answer_valid w (Gc zones) reports answer v ok (inr h) = refused_valid w (zones_in zones) reports answer v ok h
answer_valid w (Slice n) reports answer v ok (inl h) = slice_valid w reports h.0 v ok h.2
answer_valid w (Slice n) reports answer v ok (inr h) = idle_valid w reports answer v ok h
answer_valid w Finish reports answer v ok (inl h) = slice_valid w reports h.0 v ok h.2
answer_valid w Finish reports answer v ok (inr h) = idle_valid w reports answer v ok h
answer_valid w (Collect zones) reports answer v ok (inl h) =
    units_valid h.1.begun h.1.units v (prepare_valid w (zones_in zones) h.1.begun ok h.1.begins) h.1.done
answer_valid w (Collect zones) reports answer v ok (inr h) = refused_valid w (zones_in zones) reports answer v ok h
answer_valid w Reset reports answer v ok (inl h) = reset_valid w reports v ok h.1
answer_valid w Reset reports answer v ok (inr h) = idle_valid w reports answer v ok h
answer_valid w Colours reports answer v ok (inl h) = subst (λ z. IsValid z) (sym h.4.same) ok
answer_valid w Colours reports answer v ok (inr h) = subst (λ z. IsValid z) (sym h.2.same) ok
answer_valid w Dump reports answer v ok (inl h) = subst (λ z. IsValid z) (sym h.4.same) ok
answer_valid w Dump reports answer v ok (inr h) = subst (λ z. IsValid z) (sym h.2.same) ok
answer_valid w (Compact zone) reports answer v ok (inl h) = compact_valid w zone h.0 h.1 v ok h.4
answer_valid w (Compact zone) reports answer v ok (inr h) = refused_valid w (zone ∷ []) reports answer v ok h

pub run_valid : (w : World) (cs : List Cmd) (answers : List (List Report × Reply)) (v : World)
    → IsValid w → Run w cs answers v → IsValid v
run_valid w [] [] v ok h = subst (λ z. IsValid z) (sym h) ok
run_valid w (c ∷ cs) (a ∷ answers) v ok (u, first, rest) =
    run_valid u cs answers v (answer_valid w c a.0 a.1 u ok first) rest
run_valid w [] (a ∷ answers) v ok h = absurd h
run_valid w (c ∷ cs) [] v ok h = absurd h

pub no_one : (x : Name) → IsPresent first_world x → ⊥
no_one x p = cc (p, ap is_some (map.get-empty {X = ℕ × ℕ} name_cmp x))

pub no_black : (x : Name) → Has first_world.black x → ⊥
no_black x h = cc (h, set.contains-empty name_cmp x)

nothing_held : (n r : ℕ) (x : Name) → slice_index_or (replicate {A = Option Name} n None) r None ≡ Some x → ⊥
nothing_held n r x e = no_name_in_nulls n x (get_contains (replicate n None) r x e)

pub no_edge : (x y : Name) → HasEdge first_world.graph x y → ⊥
no_edge (Cell n) y e = e
no_edge (Wrap c t) y e = cc e.1

pub first_valid : IsValid first_world
first_valid = record {
  graph = record {
    fields = λ n y e. absurd (no_edge (Cell n) y e);
    keys = λ m k v e. absurd (cc e);
    values = λ m k v e. absurd (cc e);
    no_wrappers = λ m k v e. absurd (cc e);
    delegates = λ m v c t e. absurd (cc e);
  };
  presence = record {
    registers = λ r x e. absurd (nothing_held 16 r x e);
    slots = λ s x e. absurd (nothing_held 64 s x e);
    edges = λ x y p e. absurd (no_edge x y e);
    entries = λ m k v e p q. absurd (cc e);
    keys = λ m v c t e p q. absurd (cc e);
    weak = λ q x e. absurd (nothing_held 64 q x e);
    watched = λ x h. absurd (cc (h, set.contains-empty name_cmp x));
  };
  made = λ x p. absurd (no_one x p);
  settled = λ s. record {
    present = λ x h. absurd (no_black x h);
    closed = record {
      registers = λ r x e. absurd (nothing_held 16 r x e);
      edges = λ x y h e. absurd (no_edge x y e);
      entries = λ m k v e p q. absurd (cc e);
      delegates = λ m v c t e p q. absurd (cc e);
    };
  };
  preparing = λ p e. absurd (cc e);
  running = λ k e. absurd (cc e);
  marking = λ k e some. absurd (cc e);
  groups = λ k gs e has. absurd (cc e);
  ungrouped = λ k e has. absurd (cc e);
}
