-- A heap that shows the graph after a command lies in a world with that graph.
use Rattle.std.proofs.Common.{◌≡◌, ◌↔◌, ℕ, List, Option, Some, None, Ok, Err, is_some, true, refl, sym, ap, subst, ◌∙◌}
use Rattle.std.proofs.Common.{Contains, slice_get}
use Rattle.std.specs.FinMap as places
use Rattle.gz_names.specs.declared.names.Name.{Name}
use Rattle.gz_names.specs.declared.names.Name.TheVariants.{Cell, Wrap}
use Rattle.gz_names.specs.declared.numbers.Place.{Place}
use Rattle.gz_names.specs.declared.commands.GraphCmd.{GraphCmd}
use Rattle.gz_names.specs.declared.replies.Reply.{Reply}
use Rattle.gz_names.specs.declared.replies.Reply.TheVariants as reply
use Rattle.gz_names.specs.declared.replies.CmdFault.TheVariants as fault
use Rattle.gz_names.specs.declared.replies.Refusal.{Refusal}
use Rattle.cell_bits.specs.declared.bits.Bits.{Bits}
use Rattle.arena_table.specs.Cells.{CellState}
use Rattle.colour_defs.specs.declared.graph.Object.{Object}
use Rattle.colour_defs.specs.Graph.{GraphState, object_of, comp_of, comp_of_object, zone_of_comp}
use Rattle.colour_defs.specs.Graph as graph
use Rattle.colour_defs.specs.Step.{IsAccepted, step_of, refusal_in}
use Rattle.colour_defs.specs.World.{World, Preparation, Accepts, AcceptsIn, AcceptsUnless}
use Rattle.colour_defs.specs.World.{CommandInWorld, also_woken_by, IsPresent as IsPresentName, with_counts, woken_by}
use Rattle.colour_defs.specs.Laws.{IsValid, IsWellFormed}
use Rattle.colour_defs.specs.Present as present
use Rattle.colour_defs.proofs.Shown.{shows_agrees, wakes_same}
use Rattle.colour_defs.proofs.Parts.{agreement}
use Rattle.heap_core.specs.Shape.{AreWhole, Shape, name_at, zone_of}
use Rattle.heap_core.specs.Heap.{HeapState, with_marks}
use Rattle.heap_core.specs.Shows.{Shows, StandsFor, object_at}
use Rattle.heap_core.specs.Answers.{DoesStep}
use Rattle.heap_core.proofs.Resolved.{shows_coloured}
use Rattle.mark_stack.specs.Stack.{Piles, no_places}
use Rattle.slice_driver.specs.Worlds.{IsUnswept, LiesIn, NamesWeakly, outs_from, owners_of}
use Rattle.slice_driver.specs.Commands.{Wakes, with_colours}
use Rattle.slice_driver.proofs.abstraction.Named.{named_cell}

-- what a graph has is at a place of the heap that shows it
here_placed : (h : HeapState) (g : GraphState) → Shows h g → (x : Name) → present.IsHere g x
    → (p : Place) × (name_at h.shape p ≡ Some x)
here_placed h g s (Wrap c t) here = s.wrappers_are c t here
here_placed h g s (Cell n) here = go (object_of g n) refl here.1
  where
    go : (o : Option Object) → object_of g n ≡ o → comp_of_object o ≡ Some here.0
        → (p : Place) × (name_at h.shape p ≡ Some (Cell n))
    go None at e = absurd (cc e)
    go (Some o) at e = s.objects_are n o at

stands_here : (s : Shape) (g : GraphState) (p : Place) (cell : CellState) (x : Name) → StandsFor s g p cell x
    → present.IsHere g x
stands_here s g p cell (Cell n) stands = (cell.comp, ap comp_of_object stands.1)
stands_here s g p cell (Wrap c t) stands = stands.known

placed_here : (h : HeapState) (g : GraphState) → Shows h g → (p : Place) (x : Name) → name_at h.shape p ≡ Some x
    → present.IsHere g x
placed_here h g s p x e =
    let c = named_cell h.shape p x e in
    stands_here h.shape g p c.0 x (subst (λ z. StandsFor h.shape g p c.0 z) c.2 (s.cells p c.0 c.1).stands)

present_at : (v : World) (x : Name) → IsPresentName v x → (p : Place) × (places.get v.places x ≡ Some p)
present_at v x there = go (places.get v.places x) refl there
  where
    go : (o : Option Place) → places.get v.places x ≡ o → is_some o ≡ true
        → (p : Place) × (places.get v.places x ≡ Some p)
    go None at there = absurd (cc there)
    go (Some p) at there = (p, at)

pub lies_from : (h : HeapState) (g : GraphState) (v : World) → Shows h g → IsWellFormed g → present.IsPartOf v.graph g
    → AreWhole h.shape.arenas
    → ((x : Name) (p : Place) → (places.get v.places x ≡ Some p) ↔ (name_at h.shape p ≡ Some x))
    → v.owner ≡ owners_of h.shape.arenas → NamesWeakly h.shape h.weak_names v.weak → v.out ≡ outs_from 0 h.shape.arenas
    → ((x : Name) (p : Place) → Contains {X = Name × (ℕ × ℕ)} v.white (x, p) ↔ IsUnswept h.shape p x) → LiesIn h v
lies_from h g v s well part whole at owner weak out white = record {
  whole = whole;
  graph = g;
  shown = s;
  part = record {
    well_formed = well;
    part = part;
    here = λ x. (
      λ here. (let p = here_placed h g s x here in ap is_some ((at x p.0).1 p.1)),
      λ there. (let p = present_at v x there in placed_here h g s p.0 x ((at x p.0).0 p.1)),
    );
  };
  places_are = at;
  owner_is = owner;
  weak_are = weak;
  out_is = out;
  white_are = white;
}

-- what a step of the heap is in the world
pub record IsStepIn (w : World) (old new : HeapState) (c : GraphCmd) (answer : Reply) (l : LiesIn old w) : Type 0 where
  pub shown : Shows new (step_of l.graph c).0
  pub answer_is : answer ≡ (step_of w.graph c).1
  pub accepted : refusal_in (step_of w.graph c).1 ≡ None
  pub well_formed : IsWellFormed (step_of l.graph c).0
  pub part : present.IsPartOf (step_of w.graph c).0 (step_of l.graph c).0

pub step_in : (w : World) (old new : HeapState) (c : GraphCmd) (answer : Reply) → IsValid w → (l : LiesIn old w)
    → DoesStep old c (Ok answer) new → IsStepIn w old new c answer l
step_in w old new c answer ok l does =
    let d = does l.graph l.shown in
    let a = agreement w.graph l.graph c (shows_agrees w l.graph ok l.part) in
    let said : answer ≡ (step_of w.graph c).1 = d.0.0 ∙ a.0 in
    record {
      shown = d.1;
      answer_is = said;
      accepted = sym (ap refusal_in a.0) ∙ d.0.1;
      well_formed = a.1.well_formed;
      part = a.1.part;
    }

pub woken_in : (w : World) (old : HeapState) (c : GraphCmd) (x : Option Name) → IsValid w → (l : LiesIn old w)
    → Wakes old c x → woken_by w.graph c ≡ x
woken_in w old c x ok l wakes =
    sym (wakes_same w.graph l.graph l.part.part (shows_agrees w l.graph ok l.part).complete c) ∙ wakes l.graph l.shown

-- an accepted command
pub command_accepted : (w v : World) (c : GraphCmd) (answer : Reply) (x : Option Name) → w.preparing ≡ None
    → answer ≡ (step_of w.graph c).1 → refusal_in (step_of w.graph c).1 ≡ None → woken_by w.graph c ≡ x
    → Accepts w (with_counts w.graph c w.collection) (step_of w.graph c).0 x v → CommandInWorld w c answer v
command_accepted w v c answer x calm said accepted wakes a = (
  said,
  subst (λ (o : Option Refusal). AcceptsUnless o w (with_counts w.graph c w.collection) (step_of w.graph c).0
      (woken_by w.graph c) (also_woken_by w.graph c) v) (sym accepted)
      (subst (λ (p : Option Preparation). AcceptsIn p w (with_counts w.graph c w.collection) (step_of w.graph c).0
      (woken_by w.graph c) (also_woken_by w.graph c) v) (sym calm)
      (subst (λ (o : Option Name). Accepts w (with_counts w.graph c w.collection) (step_of w.graph c).0 o v) (sym wakes)
      a)),
)

-- the zone of a present cell, by its name
pub zone_named : (h : HeapState) (g : GraphState) (whole : GraphState) (p : Place) (x : Name) → Shows h g
    → present.IsPartOf whole g → name_at h.shape p ≡ Some x → graph.zone_of whole x ≡ Some (zone_of h.shape p)
zone_named h g whole p x s part e =
    let c = named_cell h.shape p x e in
    let shown = s.cells p c.0 c.1 in
    let stands : StandsFor h.shape g p c.0 x = subst (λ z. StandsFor h.shape g p c.0 z) c.2 shown.stands in
    ap (zone_of_comp whole) (comp_is x c.0 stands)
    ∙ (ap (λ (cs : List ℕ). slice_get cs c.0.comp.0) (sym part.comps ∙ s.comps_are) ∙ shown.at_home)
  where
    comp_is : (x : Name) (cell : CellState) → StandsFor h.shape g p cell x → comp_of whole x ≡ Some cell.comp
    comp_is (Cell n) cell stands = ap comp_of_object (part.objects n (object_at h.shape cell) stands.1)
    comp_is (Wrap c t) cell stands = ap (λ z. Some z) (sym stands.comp_is)

-- colours and delayed cells do not count
pub lies_marked : (h : HeapState) (ds : List Bits) (d : Piles) (w : World) → LiesIn h w → LiesIn (with_marks h ds d) w
lies_marked h ds d w l = record {
  whole = l.whole;
  graph = l.graph;
  shown = shows_coloured h ds d l.graph l.shown;
  part = l.part;
  places_are = l.places_are;
  owner_is = l.owner_is;
  weak_are = l.weak_are;
  out_is = l.out_is;
  white_are = l.white_are;
}

pub lies_coloured : (h : HeapState) (ds : List Bits) (w : World) → LiesIn h w → LiesIn (with_colours h ds) w
lies_coloured h ds w l = lies_marked h ds no_places w l

-- a command that is refused
pub refused_in : (w : World) (old new : HeapState) (c : GraphCmd) (why : Refusal) → IsValid w → LiesIn old w
    → DoesStep old c (Err (fault.Refused why)) new → (new ≡ old) × CommandInWorld w c (reply.Refused why) w
refused_in w old new c why ok l does =
    let d = does l.graph l.shown in
    let a = agreement w.graph l.graph c (shows_agrees w l.graph ok l.part) in
    let said : (step_of w.graph c).1 ≡ reply.Refused why = sym a.0 ∙ d.0 in (
      d.1,
      (
        sym said,
        subst
            (λ (o : Option Refusal). AcceptsUnless o w (with_counts w.graph c w.collection) (step_of w.graph c).0
            (woken_by w.graph c) (also_woken_by w.graph c) w) (sym (ap refusal_in said)) refl,
      ),
    )

-- what is not refused by the heap is not refused in the world
pub accepted_in : (w : World) (h : HeapState) (c : GraphCmd) → IsValid w → (l : LiesIn h w) → IsAccepted l.graph c
    → IsAccepted w.graph c
accepted_in w h c ok l accepted =
    let a = agreement w.graph l.graph c (shows_agrees w l.graph ok l.part) in
    sym (ap refusal_in a.0) ∙ accepted
