-- The names in a dump are in the range of its lines, where no more was made than they can name.
use Rattle.std.proofs.Common.{◌≡◌, ℕ, ◌<◌, ◌^◌, List, [], ◌∷◌, length, map, refl, sym, subst, arith, Option, Some}
use Rattle.std.proofs.Common.{None, Contains, slice_get}
use Rattle.std.proofs.lemmas.List.Elements.{All-append, All-cons, All-contains_itself, All-head, All-map, All-nil}
use Rattle.std.proofs.lemmas.List.Elements.{All-tail, All-weaker, recursion_from_All}
use Rattle.std.proofs.lemmas.Option.{slice_get_within}
use Rattle.std.specs.List.{All, AllByRecursion, flat_map}
use Rattle.std.specs.Option.{option_flatten}
use Rattle.gz_names.specs.declared.names.Name.{Name}
use Rattle.gz_names.specs.declared.names.Name.TheVariants.{Cell, Wrap}
use Rattle.gz_names.specs.declared.dumps.DumpLine.{DumpLine}
use Rattle.gz_names.specs.declared.dumps.DumpLine.TheVariants as line
use Rattle.gz_names.specs.DumpTexts.{FitsLine, FitsName}
use Rattle.colour_defs.specs.declared.graph.Object.{Object}
use Rattle.colour_defs.specs.Graph.{GraphState, object_of, comp_of_object, zone_of, zone_of_comp}
use Rattle.colour_defs.specs.Closure.{HoldsInField}
use Rattle.colour_defs.specs.World.{World, IsPresent}
use Rattle.colour_defs.specs.Dumps.{IsDump, IsWeakOf, WeakLine, cell_line, edge_lines, field_lines, object_lines}
use Rattle.colour_defs.specs.Dumps.{weak_line}
use Rattle.colour_defs.specs.Laws.{IsMade, IsValid}
use Rattle.colour_defs.proofs.Lists.{contains_head, contains_tail}
use Rattle.trace_cli.proofs.GraphSizes.{IsSized}

object_below : (g : GraphState) (k z : ℕ) → zone_of g (Cell k) ≡ Some z → k < length g.objects
object_below g k z e = go (slice_get g.objects k) refl e
  where
    go : (o : Option (Option Object)) → slice_get g.objects k ≡ o
        → zone_of_comp g (comp_of_object (option_flatten o)) ≡ Some z → k < length g.objects
    go None at e = absurd (cc e)
    go (Some o) at e = slice_get_within g.objects k o at

-- a name that was made
made_fits : (g : GraphState) → IsSized 4294967295 g → (x : Name) → IsMade g x → FitsName x
made_fits g sized (Cell k) made =
    let below = object_below g k made.0 made.1 in omega (arith, below, sized.objects)
made_fits g sized (Wrap c t) made = (
  let below = slice_get_within g.comps c.0 made.0.0 made.0.1 in omega (arith, below, sized.comps),
  let below = object_below g t made.1.0 made.1.1 in omega (arith, below, sized.objects),
)

all_flat : {X Y : Type 0} (P : Y → Type 0) (f : X → List Y) (xs : List X) → All (λ x. All P (f x)) xs
    → All P (flat_map f xs)
all_flat P f [] all = All-nil P
all_flat P f (x ∷ xs) all =
    All-append P (f x) (flat_map f xs) (All-head (λ y. All P (f y)) x xs all)
    (all_flat P f xs (All-tail (λ y. All P (f y)) x xs all))

fields_fit : (k : ℕ) (fields : List (Option Name)) → k < 2 ^ 32
    → ((y : Name) → Contains fields (Some y) → FitsName y) → All FitsLine (field_lines k fields)
fields_fit k [] below fits = All-nil FitsLine
fields_fit k (None ∷ fields) below fits =
    fields_fit k fields below (λ y c. fits y (contains_tail None fields (Some y) c))
fields_fit k (Some x ∷ fields) below fits =
    All-cons FitsLine (line.Edge k x) (field_lines k fields) (below, fits x (contains_head (Some x) fields))
    (fields_fit k fields below (λ y c. fits y (contains_tail (Some x) fields (Some y) c)))

module _ (w : World) (ok : IsValid w) (sized : IsSized 4294967295 w.graph) where
  present_fits : (x : Name) → IsPresent w x → FitsName x
  present_fits x p = made_fits w.graph sized x (ok.made x p)

  object_fits : (k : ℕ) → IsPresent w (Cell k) → (o : Option Object) → object_of w.graph k ≡ o
      → All FitsLine (object_lines k o)
  object_fits k p None e = All-nil FitsLine
  object_fits k p (Some o) e = fields_fit k o.fields (present_fits (Cell k) p)
      (λ y c. present_fits y (ok.presence.edges (Cell k) y p (subst (λ z. HoldsInField z y) (sym e) c)))

  edges_fit : (x : Name) → IsPresent w x → All FitsLine (edge_lines w.graph x)
  edges_fit (Cell k) p = object_fits k p (object_of w.graph k) refl
  edges_fit (Wrap c t) p = All-nil FitsLine

  weak_fits : (e : WeakLine) → IsWeakOf w e → FitsLine (weak_line e)
  weak_fits e is = (
    present_fits (Cell e.map) is.map_present,
    present_fits e.key is.key_present,
    present_fits e.value
        (ok.presence.entries (Cell e.map) e.key e.value is.found is.map_present is.key_present),
  )

  pub dump_fits : (lines : List DumpLine) → IsDump w lines → AllByRecursion FitsLine lines
  dump_fits lines d = subst (λ ls. AllByRecursion FitsLine ls) (sym d.lines_are) (recursion_from_All FitsLine _
      (All-append FitsLine (map (cell_line w) d.cells) _
      (All-map FitsLine (cell_line w) d.cells (cells (λ x. FitsName x) present_fits))
      (All-append FitsLine (flat_map (edge_lines w.graph) d.cells) _
      (all_flat FitsLine (edge_lines w.graph) d.cells (cells (λ x. All FitsLine (edge_lines w.graph x)) edges_fit))
      (All-append FitsLine (map weak_line d.weaks) _ (All-map FitsLine weak_line d.weaks weaks)
      (All-cons FitsLine line.End [] tt (All-nil FitsLine))))))
    where
      cells : (P : Name → Type 0) → ((x : Name) → IsPresent w x → P x) → All P d.cells
      cells P h = All-weaker (Contains d.cells) P (λ x c. h x ((d.cells_are.has x).0 c)) d.cells
          (All-contains_itself d.cells)

      weaks : All (λ e. FitsLine (weak_line e)) d.weaks
      weaks = All-weaker (Contains d.weaks) (λ e. FitsLine (weak_line e))
          (λ e c. weak_fits e ((d.weaks_are e).0 c)) d.weaks (All-contains_itself d.weaks)
