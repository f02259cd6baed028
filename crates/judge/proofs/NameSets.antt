-- Sets of names and of zones, as lists give them.
use Rattle.std.proofs.Common.{◌≡◌, ◌↔◌, ◌∙◌, ◌<◌, ◌≤◌, ◌^◌, ℕ, Bool, true, false, List, [], ◌∷◌, Option, Some, None}
use Rattle.std.proofs.Common.{Contains}
use Rattle.std.proofs.Common.{◌⊎◌, ◌+◌, zero, suc, eqb, inl, inr, not, w64, IsTrue, ap, arith, cond, refl, subst, sym}
use Rattle.std.proofs.lemmas.Bool.{cases_lt}
use Rattle.std.proofs.lemmas.Map.Views.{Contains-from_any, list_any-from_Contains}
use Rattle.std.proofs.lemmas.Nat.Bits.{bit_at-trailing_zeros}
use Rattle.std.specs.BTreeSet as sorted
use Rattle.std.specs.BTreeSet.{BTreeSet}
use Rattle.std.specs.FinSet as set
use Rattle.std.specs.Cmp.{eq_by_cmp_equiv}
use Rattle.std.specs.Int.{trailing_zeros}
use Rattle.std.specs.List.{list_any}
use Rattle.gz_names.specs.Order.{names_total}
use Rattle.gz_names.specs.Zones.{HasZone, zones_from, zones_in}
use Rattle.gz_names.specs.declared.names.Name.{Name}
use Rattle.gz_names.specs.declared.zone_sets.ZoneSet.{ZoneSet}
use Rattle.colour_defs.specs.World.{Has, Names}
use Rattle.colour_defs.specs.Ends.{zones_without}
use Rattle.colour_defs.proofs.Lists.{decided, nothing_in_none}
use Rattle.colour_defs.proofs.Membership.{among_from, among_to}
use Rattle.colour_defs.proofs.Names.{eq_name-is}
use Rattle.colour_defs.proofs.ZoneSets.{zones_in-has}
use Rattle.plain_graph.specs.Indexed.{order_of}
use Rattle.trace_lang.proofs.ZoneLists.{has_or_not, zones_from-has, zones_from-lacks, zones_from-nil}
use Rattle.judge.specs.Stages.{AreWithout}
use Rattle.judge.specs.Walks.{IsLeftBlack}
use Rattle.plain_graph.proofs.Indexes.{order_ties}
use Rattle.judge.proofs.Cells.{names_ordered}

-- the set of the names of a list
abbrev pub set_of : List Name → Names
set_of xs = set.from_list xs

pub set_has : (xs : List Name) (x : Name) → Has (set_of xs) x ↔ Contains xs x
set_has xs x = (
  λ h. Contains-from_any eq_name-is x xs (sym (set.contains-from_list names_total xs x) ∙ h),
  λ c. set.contains-from_list names_total xs x ∙ list_any-from_Contains (eq_by_cmp_equiv names_total) x xs c,
)

-- the names of a sorted set
pub sorted_has : (s : BTreeSet Name) (x : Name) → IsTrue (sorted.contains order_of s x) ↔ Contains s.keys x
sorted_has s x = (
  λ h. Contains-from_any (λ a b e. order_ties a b e) x s.keys h,
  λ c. list_any-from_Contains (eq_by_cmp_equiv names_ordered) x s.keys c,
)

abbrev pub names_left : Option (BTreeSet Name) → List Name
names_left None = []
names_left (Some s) = s.keys

pub left_has : (left : Option (BTreeSet Name)) (x : Name) → IsLeftBlack left x ↔ Contains (names_left left) x
left_has None x = (λ h. absurd h, λ c. absurd (nothing_in_none x c))
left_has (Some s) x = sorted_has s x
