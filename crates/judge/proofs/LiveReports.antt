-- While a collection marks, what it has found live is present: units and resets keep this.
use Rattle.std.proofs.Common.{◌≡◌, ◌⊎◌, ◌∙◌, ℕ, inl, inr, List, [], ◌∷◌, Option, Some, None, Contains, ap, map, refl}
use Rattle.std.proofs.Common.{slice_index_or, subst, sym}
use Rattle.std.proofs.lemmas.Option.{get_or_from_slice_get, slice_get-get_or}
use Rattle.std.specs.FinSet as set
use Rattle.gz_names.specs.Order.{name_cmp}
use Rattle.gz_names.specs.Zones.{zones_in}
use Rattle.gz_names.specs.declared.names.Name.{Name}
use Rattle.gz_names.specs.declared.replies.Report.{Report}
use Rattle.gz_names.specs.declared.replies.Report.TheVariants.{Started, Groups, Ended, Swept, Done, Stopped}
use Rattle.colour_defs.specs.Graph.{IsInZones, comp_of}
use Rattle.colour_defs.specs.Laws.{IsValid, IsWellFormed}
use Rattle.colour_defs.specs.Lawful.{AreLawfulSweeps, AreLawfulUnits, Begins, EndsGroup, Finishes, FormsGroups}
use Rattle.colour_defs.specs.Lawful.{IsLawfulReport, IsLawfulSweep, IsLawfulUnit, LastOfReset, Prepares, Resets}
use Rattle.colour_defs.specs.Lawful.{last, quiet, says, with_sweep}
use Rattle.colour_defs.specs.World.{Collection, Has, IsPresent, LiveClosure, Preparation, World}
use Rattle.colour_defs.proofs.ValidEnds.{some_marking}
use Rattle.colour_defs.proofs.ValidReports.{Retallied, none, report_valid, some}
use Rattle.colour_defs.proofs.ValidReports.{unit_valid}
use Rattle.judge.specs.Live.{IsFollowed, IsLive, IsValidLive}
use Rattle.judge.proofs.LiveCommands.{reached_in}
use Rattle.judge.proofs.LiveEnds.{live_ends, live_stays}

-- what is in a list of registers or slots has its place there
pub held_at : (xs : List (Option Name)) (x : Name) → Contains xs (Some x)
    → (r : ℕ) × (slice_index_or xs r None ≡ Some x)
held_at xs x c = (
  c.0,
  get_or_from_slice_get xs c.0 (Some x) None
      (slice_get-get_or xs c.0 (Some x) c.1 ∙ ap (λ (y : Option Name). Some y) c.2),
)

-- a world without a collection
pub live_without : (v : World) → v.collection ≡ None → IsValidLive v
live_without v idle = record { marking = λ k e some. absurd (cc (idle, e)) }

-- another tally, and all else that is not looked at
pub live_retallied : (w : World) (out : List ℕ) (white : List (Name × (ℕ × ℕ))) (q : Option Preparation)
    {p o : Option Collection} → Retallied p o → w.collection ≡ p → IsValidLive w
    → IsValidLive (record w { out = out; white = white; preparing = q; collection = o })
live_retallied w out white q none at l = record { marking = λ k e some. absurd (cc e) }
live_retallied w out white q (some k t) at l = record {
  marking = λ z e marks.
      let same : record k { tally = t } ≡ z = cc e in
      let m = l.marking k at (λ h. marks (subst (λ (y : Collection). y.marking ≡ []) same h)) in
      let after = record w {
        out = out;
        white = white;
        preparing = q;
        collection = Some (record k { tally = t });
      } in
      subst (λ y. IsLive after y) same (record {
        formed = m.formed;
        made = m.made;
        followed = record { edges = m.followed.edges; values = m.followed.values; keys = m.followed.keys };
        live = m.live;
      });
}

begin_at : (w : World) (zones : List ℕ) (v : World) → IsValid w → (b : Begins w zones v)
    → IsLive (record w { preparing = None; collection = Some b.collection }) b.collection
begin_at w zones v ok b = record {
  formed = subst (λ g. IsWellFormed g) (sym b.snapshot_is) ok.graph;
  made = λ x c at. subst (λ g. comp_of g x ≡ Some c) b.snapshot_is at;
  followed = followed;
  live = λ x h. reached_in b.collection.snapshot
      (λ s. Has b.collection.live_starts s ⊎ Has b.collection.woken s) (IsPresent w) (λ y s. elim s [
        | inl a ↦ starts y ((b.live_starts y).0 a)
        | inr n ↦ absurd (cc (subst (λ z. Has z y) b.woken_is n, set.contains-empty name_cmp y))
      ]) (record { edges = followed.edges; values = followed.values; keys = followed.keys }) h;
}
  where
    followed : IsFollowed b.collection.snapshot (IsPresent w)
    followed = subst (λ g. IsFollowed g (IsPresent w)) (sym b.snapshot_is)
        (record { edges = ok.presence.edges; values = ok.presence.entries; keys = ok.presence.keys })

    black : (x : Name) → Contains w.graph.registers (Some x) ⊎ Has w.black x → IsPresent w x
    black x h = elim h [
      | inl c ↦ let at = held_at w.graph.registers x c in ok.presence.registers at.0 x at.1
      | inr d ↦ ((ok.preparing b.preparation b.was).left_out x d).0
    ]

    starts : (x : Name) → Has b.collection.black_starts x
        ⊎ (Contains w.graph.slots (Some x) ⊎ (IsPresent w x × (IsInZones w.graph zones x → ⊥))) → IsPresent w x
    starts x h = elim h [
      | inl d ↦ black x ((b.black_starts x).0 d)
      | inr o ↦ elim o [
        | inl c ↦ let at = held_at w.graph.slots x c in ok.presence.slots at.0 x at.1
        | inr p ↦ p.0
      ]
    ]

begin_live : (w : World) (zones : List ℕ) (v : World) → IsValid w → Begins w zones v → IsValidLive v
begin_live w zones v ok b =
    subst (λ z. IsValidLive z) (sym b.world_is) (record {
      marking = λ k e marks. let same : b.collection ≡ k = cc e in
          subst (λ z. IsLive (record w { preparing = None; collection = Some b.collection }) z) same
          (begin_at w zones v ok b);
    })

form_live : (w : World) (groups : List (List ℕ)) (v : World) → IsValidLive w → FormsGroups w groups v → IsValidLive v
form_live w groups v l f =
    let k : Collection = record f.collection { groups = Some groups } in
    subst (λ z. IsValidLive z) (sym f.world_is) (record {
      marking = λ z e marks.
          let same : record f.collection { groups = Some groups } ≡ z = cc e in
          let m = l.marking f.collection f.running
          (λ h. marks (subst (λ (y : Collection). y.marking ≡ []) same h)) in
          subst (λ y. IsLive (record w { collection = Some (record f.collection { groups = Some groups }) }) y) same
          (record {
            formed = m.formed;
            made = m.made;
            followed = record { edges = m.followed.edges; values = m.followed.values; keys = m.followed.keys };
            live = m.live;
          });
    })

-- the group that ends was marking
was_live : (w : World) (zones : List ℕ) (grays told : List Name) (v : World) → IsValid w → IsValidLive w
    → (h : EndsGroup w zones grays told v) → IsLive w h.collection
was_live w zones grays told v ok l h = l.marking h.collection h.running
    (some_marking w v h.collection zones h.rest grays ok h.running h.first told h.ends h.loses)

end_live : (w : World) (zones : List ℕ) (grays told : List Name) (v : World) → IsValid w → IsValidLive w
    → EndsGroup w zones grays told v → IsValidLive v
end_live w zones grays told v ok l h = record {
  marking = λ k e marks. subst (λ z. IsLive v z) (cc (h.ends.collection_is, e))
      (live_ends w v h.collection zones h.rest grays ok h.running h.first told h.ends h.loses
      (was_live w zones grays told v ok l h));
}

swept_retallied : (o : Option Collection) → Retallied o (with_sweep o)
swept_retallied None = none
swept_retallied (Some k) = some k _

pub sweep_live : (w : World) (arena : ℕ) (freed : List Name) (v : World) → IsValidLive w
    → IsLawfulSweep w arena freed v → IsValidLive v
sweep_live w arena freed v l s =
    subst (λ z. IsValidLive z) (sym s.world_is)
    (live_retallied w s.rest v.white w.preparing (swept_retallied w.collection) refl l)

finish_live : (w v : World) → Finishes w v → IsValidLive v
finish_live w v f = live_without v (ap (λ (z : World). z.collection) f.world_is)

pub report_live : (w : World) (r : Report) (v : World) → IsValid w → IsValidLive w → IsLawfulReport w r v
    → IsValidLive v
report_live w Started v ok l h = begin_live w h.0 v ok h.1
report_live w (Groups groups) v ok l h = form_live w (map zones_in groups) v l h
report_live w (Ended zones grays told) v ok l h = end_live w (zones_in zones) grays told v ok l h
report_live w (Swept arena freed) v ok l h = sweep_live w arena freed v l h
report_live w Done v ok l h = finish_live w v h
report_live w (Stopped zones) v ok l h = absurd h

pub unit_live : (w : World) {rs : List Report} {v : World} → IsValid w → IsValidLive w → IsLawfulUnit w rs v
    → IsValidLive v
unit_live w ok l (quiet run) = l
unit_live w ok l (says {r} {v} run kind h over) = report_live w r v ok l h
unit_live w ok l (last {r} {u} {v} run kind h done) =
    report_live u Done v (report_valid w r u ok h) (report_live w r u ok l h) done

pub units_live : (w : World) (units : List (List Report)) (v : World) → IsValid w → IsValidLive w
    → AreLawfulUnits w units v → IsValidLive v
units_live w [] v ok l h = subst (λ z. IsValidLive z) (sym h) l
units_live w (u ∷ us) v ok l (m, first, rest) =
    units_live m us v (unit_valid w ok first) (unit_live w ok l first) rest

pub sweeps_live : (w : World) (rs : List Report) (v : World) → IsValidLive w → AreLawfulSweeps w rs v → IsValidLive v
sweeps_live w [] v l h = subst (λ z. IsValidLive z) (sym h) l
sweeps_live w (Swept arena freed ∷ rs) v l (u, first, rest) =
    sweeps_live u rs v (sweep_live w arena freed u l first) rest
sweeps_live w (Started ∷ rs) v l h = absurd h
sweeps_live w (Groups groups ∷ rs) v l h = absurd h
sweeps_live w (Ended zones grays told ∷ rs) v l h = absurd h
sweeps_live w (Done ∷ rs) v l h = absurd h
sweeps_live w (Stopped zones ∷ rs) v l h = absurd h

last_live : (w : World) (r : Report) (v : World) → LastOfReset w r v → IsValidLive v
last_live w Started v h = absurd h
last_live w (Groups groups) v h = absurd h
last_live w (Ended zones grays told) v h = absurd h
last_live w (Swept arena freed) v h = absurd h
last_live w Done v h = finish_live w v h
last_live w (Stopped zones) v h = live_without v (ap (λ (z : World). z.collection) h.world_is)

pub reset_live : (w : World) (reports : List Report) (v : World) → Resets w reports v → IsValidLive v
reset_live w reports v h = last_live h.after h.final v h.ends

pub prepare_live : (w : World) (zones : List ℕ) (v : World) → Prepares w zones v → IsValidLive v
prepare_live w zones v h =
    live_without v (ap (λ (z : World). z.collection) h.world_is ∙ h.idle.none_running)
