-- Which cells are present: those that commands make, until the group of their zone ends.
use Rattle.std.specs.Prelude.{◌≡◌, ℕ, List, Option, Some, None, Contains, IsSome}
use Rattle.std.specs.BTreeMap as tree
use Rattle.std.specs.BTreeMap.{BTreeMap}
use Rattle.gz_names.specs.Zones.{zones_in}
use Rattle.gz_names.specs.declared.names.Name.{Name}
use Rattle.gz_names.specs.declared.names.Name.TheVariants.{Cell, Wrap}
use Rattle.gz_names.specs.declared.numbers.Place.{Place}
use Rattle.gz_names.specs.declared.commands.GraphCmd.{GraphCmd}
use Rattle.gz_names.specs.declared.commands.GraphCmd.TheVariants as cmd
use Rattle.gz_names.specs.declared.replies.Reply.{Reply}
use Rattle.gz_names.specs.declared.replies.Reply.TheVariants as reply
use Rattle.gz_names.specs.declared.replies.Refusal.{Refusal}
use Rattle.colour_defs.specs.Graph.{GraphState, IsInZones, zone_of}
use Rattle.colour_defs.specs.Step.{step_of, refusal_in}
use Rattle.colour_defs.specs.World.{also_woken_by, target_cell, woken_by}
use Rattle.colour_defs.specs.Ends.{Lists}
use Rattle.plain_graph.specs.Indexed.{order_of}
use Rattle.judge.specs.Walks.{IsFoundBlack, IsFoundLive, Walks}
use Rattle.judge.specs.declared.collection.GroupEnd.{GroupEnd}
use Rattle.judge.specs.declared.collection.Shade.{Shade}
use Rattle.judge.specs.declared.collection.Shade.TheVariants as shade

-- the present cells, each with its place
abbrev pub Cells : Type 0
Cells = BTreeMap Name Place

abbrev pub HasCell : Cells → Name → Type 0
HasCell cells x = IsSome (tree.get order_of cells x)

-- a name has a place: the one that it had, or one that it gets; every other name stays where it is
pub record GivesPlace (g : GraphState) (old : Cells) (x : Name) (new : Cells) : Type 0 where
  pub found : HasCell old x → new ≡ old
  pub made : (z : ℕ) → zone_of g x ≡ Some z → HasCell new x
  pub others : (y : Name) → (x ≡ y → ⊥) → tree.get order_of new y ≡ tree.get order_of old y

-- a name that there may be has a place
abbrev pub GivesPlaces : GraphState → Option Name → Cells → Cells → Type 0
GivesPlaces g None old new = new ≡ old
GivesPlaces g (Some x) old new = GivesPlace g old x new

abbrev pub unless_refused : Option Refusal → Option Name → Option Name
unless_refused (Some why) x = None
unless_refused None x = x

-- the name that a command wakes: it is made, made again, or handed out by a gray slot
abbrev pub wakes : GraphState → GraphCmd → Option Name
wakes g c = unless_refused (refusal_in (step_of g c).1) (woken_by g c)

-- a second name that it wakes while zones are being prepared: what is read through a wrapper
abbrev pub wakes_also : GraphState → GraphCmd → Option Name
wakes_also g c = unless_refused (refusal_in (step_of g c).1) (also_woken_by g c)

-- what a reply says was made, and what it names
abbrev pub made_in : Reply → Option Name
made_in (reply.Made n) = Some (Cell n)
made_in r = None

abbrev pub named_in : Reply → Option Name
named_in (reply.Named x) = Some x
named_in r = None

abbrev pub wrapper_in : Option Name → Option Name
wrapper_in None = None
wrapper_in (Some (Cell n)) = None
wrapper_in (Some (Wrap c t)) = Some (Wrap c t)

-- the name that a command wakes, by its reply
abbrev pub woken_in : GraphCmd → Reply → Option Name
woken_in cmd.Zone r = None
woken_in (cmd.Comp z) r = None
woken_in (cmd.New a c n) r = made_in r
woken_in (cmd.Map a c) r = made_in r
woken_in (cmd.Get a b f) r = None
woken_in (cmd.Set b f t) r = None
woken_in (cmd.Wrap a b c) r = wrapper_in (named_in r)
woken_in (cmd.Unwrap a b) r = None
woken_in (cmd.Copy a b) r = None
woken_in (cmd.Drop a) r = None
woken_in (cmd.Hold s a) r = None
woken_in (cmd.Release s) r = None
woken_in (cmd.Expose a s) r = named_in r
woken_in (cmd.Put m k v) r = None
woken_in (cmd.Del m k) r = None
woken_in (cmd.Find a m k) r = None

-- a second name that a command wakes while zones are being prepared, by its reply
abbrev pub also_woken_in : GraphCmd → Reply → Option Name
also_woken_in cmd.Zone r = None
also_woken_in (cmd.Comp z) r = None
also_woken_in (cmd.New a c n) r = None
also_woken_in (cmd.Map a c) r = None
also_woken_in (cmd.Get a b f) r = None
also_woken_in (cmd.Set b f t) r = None
also_woken_in (cmd.Wrap a b c) r = target_cell (named_in r)
also_woken_in (cmd.Unwrap a b) r = target_cell (named_in r)
also_woken_in (cmd.Copy a b) r = None
also_woken_in (cmd.Drop a) r = None
also_woken_in (cmd.Hold s a) r = None
also_woken_in (cmd.Release s) r = None
also_woken_in (cmd.Expose a s) r = None
also_woken_in (cmd.Put m k v) r = None
also_woken_in (cmd.Del m k) r = None
also_woken_in (cmd.Find a m k) r = None

-- a cell of these zones is gray or white, by the names that were found black and live
abbrev pub IsGrayBy : GraphState → List ℕ → List Name → List Name → Name → Type 0
IsGrayBy g zones black live x = IsInZones g zones x × Contains live x × (Contains black x → ⊥)

abbrev pub IsWhiteBy : GraphState → List ℕ → List Name → Name → Type 0
IsWhiteBy g zones live x = IsInZones g zones x × (Contains live x → ⊥)

abbrev pub HasShade : GraphState → List ℕ → List Name → List Name → Name → Shade → Type 0
HasShade g zones black live x shade.Gray = IsGrayBy g zones black live x
HasShade g zones black live x shade.White = IsWhiteBy g zones live x

-- the gray names and the white ones of a group's end, by what was found black and live
pub record HasColours (g : GraphState) (cells : Cells) (black live : List Name) (end : GroupEnd) : Type 0 where
  pub grays : Lists (λ x. HasCell cells x × IsGrayBy g (zones_in end.zones) black live x) end.grays.items
  pub whites : Lists (λ x. HasCell cells x × IsWhiteBy g (zones_in end.zones) live x) end.whites.items

-- these names are present no longer, and every other one stays where it is
pub record LetsGo (names : List Name) (old new : Cells) : Type 0 where
  pub gone : (x : Name) → Contains names x → tree.get order_of new x ≡ None
  pub stay : (x : Name) → (Contains names x → ⊥) → tree.get order_of new x ≡ tree.get order_of old x

-- a cell of these zones is gray or white, by what is reached in the former graph from what was found and what was woken
abbrev pub IsGray : GraphState → List ℕ → GraphState → Walks → Name → Type 0
IsGray g zones former w x = IsInZones g zones x × IsFoundLive former w x × (IsFoundBlack former w x → ⊥)

abbrev pub IsWhite : GraphState → List ℕ → GraphState → Walks → Name → Type 0
IsWhite g zones former w x = IsInZones g zones x × (IsFoundLive former w x → ⊥)

-- a group of these zones ends: its gray cells are these, and its white ones are present no longer
pub record Colours (g : GraphState) (zones : List ℕ) (former : GraphState) (w : Walks) (old : Cells) (grays : List Name)
    (new : Cells) : Type 0 where
  pub grays_are : Lists (λ x. HasCell old x × IsGray g zones former w x) grays
  pub gone : (x : Name) → HasCell old x → IsWhite g zones former w x → tree.get order_of new x ≡ None
  pub stay : (x : Name) → (HasCell old x × IsWhite g zones former w x → ⊥)
      → tree.get order_of new x ≡ tree.get order_of old x
