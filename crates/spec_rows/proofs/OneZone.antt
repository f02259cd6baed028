-- A collection of zone 0 alone, which has all cells, by units: the beginning of its marking, the groups, the end of the
-- only group, and the sweep of its only arena with `done`.
use Rattle.std.proofs.Common.{◌≡◌, ℕ, inl, List, [], ◌∷◌, ◌<◌, refl, sym, ap, subst, ◌∙◌, Some, None}
use Rattle.std.proofs.Common.{Contains}
use Rattle.gz_names.specs.declared.names.Name.{Name}
use Rattle.gz_names.specs.declared.commands.Cmd.TheVariants.{Collect}
use Rattle.gz_names.specs.declared.replies.Reply.TheVariants as reply
use Rattle.gz_names.specs.declared.replies.Report.{Report}
use Rattle.gz_names.specs.declared.replies.Report.TheVariants.{Started, Groups, Ended, Swept, Done}
use Rattle.std.specs.FinSet as set
use Rattle.colour_defs.specs.Graph.{IsInZones}
use Rattle.colour_defs.specs.World.{World, Collection, Has, IsIdle, first_preparation}
use Rattle.colour_defs.specs.Groups.{AreLawfulGroups, IsFirstEdge, LeadsWithin, here, AreAscending}
use Rattle.colour_defs.specs.Lawful.{FormsGroups, EndsGroup, IsLawfulSweep, Finishes, IsOver, says, last}
use Rattle.colour_defs.specs.Lawful.{AreLawfulUnits, Prepares, Begins, Answers, with_sweep}
use Rattle.spec_rows.specs.Rows.{only_zone_0}
use Rattle.spec_rows.proofs.Beginnings.{begins_unit}
use Rattle.colour_defs.proofs.Lists.{nothing_in_none, contains_head}
use Rattle.colour_defs.proofs.Finite.{no_name}
use Rattle.spec_rows.proofs.Places.{single}
use Rattle.colour_defs.proofs.ZoneSets.{zones_in-first}

one_group : (w : World) (k : Collection) → k.zones ≡ 0 ∷ [] → AreLawfulGroups w k ((0 ∷ []) ∷ [])
one_group w k zones = record {
  all = λ z c. (0 ∷ [], contains_head (0 ∷ []) [], subst (λ l. Contains l z) zones c);
  only = λ g z c d. subst (λ l. Contains l z) (sym (single (0 ∷ []) g c) ∙ sym zones) d;
  full = λ g c e. let q : ◌≡◌ {A = List ℕ} (0 ∷ []) g = single (0 ∷ []) g c in cc (q, e);
  ascending = λ g c. subst (λ l. AreAscending l) (single (0 ∷ []) g c) (tt, tt);
  apart = ((λ h c. absurd (nothing_in_none h c)), tt);
  strong = λ g c a b ca cb.
      let eg : ◌≡◌ {A = List ℕ} (0 ∷ []) g = single (0 ∷ []) g c in
      let ea : ◌≡◌ {A = ℕ} 0 a = single 0 a (subst (λ z. Contains z a) (sym eg) ca) in
      let eb : ◌≡◌ {A = ℕ} 0 b = single 0 b (subst (λ z. Contains z b) (sym eg) cb) in
      subst (λ z. LeadsWithin (IsFirstEdge w k) g a z) (sym ea ∙ eb) here;
  backward = ((λ h c. absurd (nothing_in_none h c)), tt);
}

abbrev pub grouped : Collection → Collection
grouped k = record k { groups = Some ((0 ∷ []) ∷ []) }

pub forms_one_group : (w : World) (k : Collection) → w.collection ≡ Some k → k.groups ≡ None → k.zones ≡ 0 ∷ []
    → FormsGroups w ((0 ∷ []) ∷ []) (record w { collection = Some (grouped k) })
forms_one_group w k running none zones =
    record { collection = k; running = running; none_yet = none; lawful = one_group w k zones; world_is = refl }

-- zone 0 is prepared: no cell is black from then on
abbrev pub prepared : World → World
prepared w = record w { black = set.empty; preparing = Some (first_preparation w (0 ∷ [])) }

pub prepares_one : (w : World) → IsIdle w → 0 < w.graph.zones
    → ((x : Name) → Has w.black x → IsInZones w.graph (0 ∷ []) x) → Prepares w (0 ∷ []) (prepared w)
prepares_one w idle made mine = record {
  idle = idle;
  made = λ z c. subst (λ n. n < w.graph.zones) (single 0 z c) made;
  some = λ e. cc e;
  world_is = refl;
  black_are = λ x. ((λ h. absurd (no_name x h)), λ h. absurd (h.1 (mine x h.0)));
}

-- the three units after the beginning
abbrev pub one_zone_units : List Name → List Name → List Name → List (List Report)
one_zone_units grays told freed = (Groups (only_zone_0 ∷ []) ∷ []) ∷ (Ended only_zone_0 grays told ∷ [])
    ∷ (Swept 0 freed ∷ Done ∷ []) ∷ []

pub one_zone_lawful : (u0 u1 u2 u3 v : World) (grays told freed : List Name) → FormsGroups u0 ((0 ∷ []) ∷ []) u1
    → EndsGroup u1 (0 ∷ []) grays told u2 → IsLawfulSweep u2 0 freed u3 → Finishes u3 v
    → AreLawfulUnits u0 (one_zone_units grays told freed) v
one_zone_lawful u0 u1 u2 u3 v grays told freed f e s d = (
  u1,
  says (inl (f.collection, f.running)) (λ q. cc q) (subst (λ z. FormsGroups u0 (z ∷ []) u1) (sym zones_in-first) f)
      not_over,
  (
    u2,
    says (inl (e.collection, e.running)) (λ q. cc q)
        (subst (λ z. EndsGroup u1 z grays told u2) (sym zones_in-first) e) (λ o. cc (s.first, o.none_out)),
    (v, last (inl (_, e.ends.collection_is)) (λ q. cc q) s d, refl),
  ),
)
  where
    not_over : IsOver u1 → ⊥
    not_over o =
        let same : grouped f.collection ≡ o.collection = cc (ap (λ (w : World). w.collection) f.world_is, o.running) in
        cc (ap (λ (k : Collection). k.groups) same, o.ended)

-- a whole collection, by the units after its beginning
pub units_collect : (w u v : World) (grays told freed : List Name) → Prepares w (0 ∷ []) (prepared w)
    → Begins (prepared w) (0 ∷ []) u → AreLawfulUnits u (one_zone_units grays told freed) v → IsIdle v
    → Answers w (Collect only_zone_0)
    (Started ∷ Groups (only_zone_0 ∷ []) ∷ Ended only_zone_0 grays told ∷ Swept 0 freed ∷ Done ∷ [])
    reply.Collected v
units_collect w u v grays told freed p b units idle = inl (
  refl,
  record {
    begun = prepared w;
    begins = subst (λ z. Prepares w z (prepared w)) (sym zones_in-first) p;
    units = (Started ∷ []) ∷ one_zone_units grays told freed;
    done = (u, begins_unit (0 ∷ []) (prepared w) u b, units);
    reports_are = refl;
    over = idle;
  },
)

pub collect_lawful : (w u0 u1 u2 u3 v : World) (grays freed : List Name)
    → Prepares w (0 ∷ []) (prepared w) → Begins (prepared w) (0 ∷ []) u0 → FormsGroups u0 ((0 ∷ []) ∷ []) u1
    → EndsGroup u1 (0 ∷ []) grays [] u2 → IsLawfulSweep u2 0 freed u3 → Finishes u3 v → v.preparing ≡ None
    → Answers w (Collect only_zone_0)
    (Started ∷ Groups (only_zone_0 ∷ []) ∷ Ended only_zone_0 grays [] ∷ Swept 0 freed ∷ Done ∷ [])
    reply.Collected v
collect_lawful w u0 u1 u2 u3 v grays freed p b f e s d calm =
    units_collect w u0 v grays [] freed p b (one_zone_lawful u0 u1 u2 u3 v grays [] freed f e s d)
    (record { none_running = ap (λ (z : World). z.collection) d.world_is; none_preparing = calm })

-- an arena without white cells
pub sweep_of_nothing : (u : World) → u.out ≡ 0 ∷ [] → u.white ≡ []
    → IsLawfulSweep u 0 [] (record u { out = []; white = []; collection = with_sweep u.collection })
sweep_of_nothing u out white = record {
  rest = [];
  first = out;
  world_is = refl;
  freed_are = record {
    ascending = tt;
    has = λ x. ((λ c. absurd (nothing_in_none x c)), λ h. absurd (none x (0, h.0) h.1));
  };
  white_are = λ x p. ((λ c. absurd (nothing_in_none (x, p) c)), λ h. absurd (none x p h.0));
}
  where
    none : (x : Name) (p : ℕ × ℕ) → Contains u.white (x, p) → ⊥
    none x p c = nothing_in_none (x, p) (subst (λ l. Contains l (x, p)) white c)
