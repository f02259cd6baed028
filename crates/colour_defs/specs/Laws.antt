-- What holds of every world that a lawful run can reach: the laws, and the one invariant that carries them.
use Rattle.std.specs.Prelude.{◌≡◌, ◌≢◌, ◌⊎◌, ℕ, List, [], Some, None, IsTrue, Contains}
use Rattle.gz_names.specs.declared.names.Name.{Name}
use Rattle.gz_names.specs.declared.names.Name.TheVariants.{Cell, Wrap}
use Rattle.gz_names.specs.declared.numbers.CompNo.{CompNo}
use Rattle.colour_defs.specs.Graph.{GraphState, register_cell, slot_cell, has_wrapper, value_of, comp_of, zone_of}
use Rattle.colour_defs.specs.Graph.{IsInZones}
use Rattle.colour_defs.specs.Closure.{HasEdge, Closure, ClosureWithin}
use Rattle.colour_defs.specs.World.{Has, Preparation, Collection, World, IsPresent, IsLeftOut, IsSettled, BlackClosure}
use Rattle.colour_defs.specs.World.{LiveClosure}
use Rattle.colour_defs.specs.Groups.{EachLater, IsKeyOfPresent}
use Rattle.colour_defs.specs.WeakRefs.{weak_cell}
use Rattle.gz_names.specs.declared.commands.WeakCmd.{WeakCmd}
use Rattle.gz_names.specs.declared.commands.Cmd.{Cmd}
use Rattle.gz_names.specs.declared.commands.Cmd.TheVariants as command

-- the presence law: registers, slots, weak names and what is present name what is present; and with its map and its
-- target a wrapper key is present
pub record NamesOnlyPresent (w : World) : Type 0 where
  pub registers : (r : ℕ) (x : Name) → register_cell w.graph r ≡ Some x → IsPresent w x
  pub slots : (s : ℕ) (x : Name) → slot_cell w.graph s ≡ Some x → IsPresent w x
  pub edges : (x y : Name) → IsPresent w x → HasEdge w.graph x y → IsPresent w y
  pub entries : (m k v : Name) → value_of w.graph m k ≡ Some v → IsPresent w m → IsPresent w k → IsPresent w v
  pub keys : (m v : Name) (c : CompNo) (t : ℕ) → value_of w.graph m (Wrap c t) ≡ Some v → IsPresent w m
      → IsPresent w (Cell t) → IsPresent w (Wrap c t)
  pub weak : (q : ℕ) (x : Name) → weak_cell w q ≡ Some x → IsPresent w x
  pub watched : (x : Name) → Has w.weak.watched x → IsPresent w x

-- a set of names that has what the registers hold, and is closed in the graph as it is now
pub record IsClosed (g : GraphState) (P : Name → Type 0) : Type 0 where
  pub registers : (r : ℕ) (x : Name) → register_cell g r ≡ Some x → P x
  pub edges : (x y : Name) → P x → HasEdge g x y → P y
  pub entries : (m k v : Name) → value_of g m k ≡ Some v → P m → P k → P v
  pub delegates : (m v : Name) (c : CompNo) (t : ℕ) → value_of g m (Wrap c t) ≡ Some v → P m → P (Cell t) → P (Wrap c t)

-- a set of names that has what the registers hold inside another set, and is closed inside it
pub record IsClosedWithin (g : GraphState) (IsIn : Name → Type 0) (P : Name → Type 0) : Type 0 where
  pub registers : (r : ℕ) (x : Name) → register_cell g r ≡ Some x → IsIn x → P x
  pub edges : (x y : Name) → P x → HasEdge g x y → IsIn y → P y
  pub entries : (m k v : Name) → value_of g m k ≡ Some v → P m → P k → IsIn v → P v
  pub delegates : (m v : Name) (c : CompNo) (t : ℕ) → value_of g m (Wrap c t) ≡ Some v → P m → P (Cell t)
      → IsIn (Wrap c t) → P (Wrap c t)

-- some zone of the collection is marking
abbrev pub IsMarking : Collection → Type 0
IsMarking k = k.marking ≡ [] → ⊥

-- the register law: registers hold black cells, by the closure while some zone is marking, by the black names where
-- none is. While a collection is prepared, this is said of the cells that it leaves out
pub record RegistersAreBlack (w : World) : Type 0 where
  pub marking : (k : Collection) → w.collection ≡ Some k → IsMarking k → (r : ℕ) (x : Name)
      → register_cell w.graph r ≡ Some x → BlackClosure k x
  pub settled : IsSettled w → (r : ℕ) (x : Name) → register_cell w.graph r ≡ Some x → Has w.black x
  pub preparing : (p : Preparation) → w.preparing ≡ Some p → (r : ℕ) (x : Name) → register_cell w.graph r ≡ Some x
      → (IsInZones w.graph p.zones x → ⊥) → Has w.black x

-- the closure law: black leads to black and live to live, in the graph as it is now; while a collection is prepared,
-- among the cells that it leaves out
pub record ClosuresAreClosed (w : World) : Type 0 where
  pub black : (k : Collection) → w.collection ≡ Some k → IsMarking k → IsClosed w.graph (BlackClosure k)
  pub live : (k : Collection) → w.collection ≡ Some k → IsMarking k → IsClosed w.graph (LiveClosure k)
  pub settled : IsSettled w → IsClosed w.graph (Has w.black)
  pub preparing : (p : Preparation) → w.preparing ≡ Some p → IsClosedWithin w.graph (IsLeftOut w p) (Has w.black)

-- some register holds x
abbrev pub IsInRegister : World → Name → Type 0
IsInRegister w x = (r : ℕ) × (register_cell w.graph r ≡ Some x)

-- a register or a gray slot holds x, or x is present outside the collected zones
abbrev pub IsRoot : World → Collection → Name → Type 0
IsRoot w k x =
    IsInRegister w x ⊎ ((s : ℕ) × (slot_cell w.graph s ≡ Some x)) ⊎ (IsPresent w x × (IsInZones w.graph k.zones x → ⊥))

-- what is reached now is in the closures
pub record ReachedIsInClosures (w : World) : Type 0 where
  pub black : (k : Collection) → w.collection ≡ Some k → IsMarking k → (x : Name) → Closure w.graph (IsInRegister w) x
      → BlackClosure k x
  pub live : (k : Collection) → w.collection ≡ Some k → IsMarking k → (x : Name) → Closure w.graph (IsRoot w k) x
      → LiveClosure k x
  pub settled : IsSettled w → (x : Name) → Closure w.graph (IsInRegister w) x → Has w.black x
  pub preparing : (p : Preparation) → w.preparing ≡ Some p → (x : Name)
      → ClosureWithin w.graph (IsLeftOut w p) (IsInRegister w) x → Has w.black x

-- the closure law as a group ends, also the last one: the closures are closed, and have what is reached then
pub record ClosuresAreClosedAtEnd (k : Collection) (v : World) : Type 0 where
  pub black : IsClosed v.graph (BlackClosure k)
  pub live : IsClosed v.graph (LiveClosure k)
  pub reached_black : (x : Name) → Closure v.graph (IsInRegister v) x → BlackClosure k x
  pub reached_live : (x : Name) → Closure v.graph (IsRoot v k) x → LiveClosure k x

-- the garbage law as a group ends: what is outside the live closure goes from its zones. Outside it is what
-- was garbage as marking began, was not woken since, and is not in the closure with what was woken
abbrev pub GarbageGoesAtEnd : World → Collection → List ℕ → World → Type 0
GarbageGoesAtEnd w k zones v = (x : Name) → IsInZones w.graph zones x → (LiveClosure k x → ⊥) → IsPresent v x → ⊥

-- the garbage law as a collection finishes: what is outside the live closure has gone
abbrev pub GarbageIsGone : World → Collection → Type 0
GarbageIsGone w k = (x : Name) → (LiveClosure k x → ⊥) → IsPresent w x → ⊥

-- no command on weak slots and watches
abbrev pub IsNoWeakCmd : Cmd → Type 0
IsNoWeakCmd c = (k : WeakCmd) → c ≢ command.Weak k

-- cells of one compartment
abbrev pub IsSameComp : GraphState → Name → Name → Type 0
IsSameComp g x y = (c : CompNo) × (comp_of g x ≡ Some c) × (comp_of g y ≡ Some c)

-- the name of an object or a map
abbrev pub IsNoWrapper : Name → Type 0
IsNoWrapper (Cell n) = Unit {0}
IsNoWrapper (Wrap c t) = ⊥

-- fields and entries stay within a compartment, no map is a wrapper, and the target of a wrapper key was made
pub record IsWellFormed (g : GraphState) : Type 0 where
  pub fields : (n : ℕ) (y : Name) → HasEdge g (Cell n) y → IsSameComp g (Cell n) y
  pub keys : (m k v : Name) → value_of g m k ≡ Some v → IsSameComp g m k
  pub values : (m k v : Name) → value_of g m k ≡ Some v → IsSameComp g m v
  pub no_wrappers : (m k v : Name) → value_of g m k ≡ Some v → IsNoWrapper m
  pub delegates : (m v : Name) (c : CompNo) (t : ℕ) → value_of g m (Wrap c t) ≡ Some v → (d : CompNo)
      × (comp_of g (Cell t) ≡ Some d)

abbrev pub HasSomeZone : GraphState → Name → Type 0
HasSomeZone g x = (z : ℕ) × (zone_of g x ≡ Some z)

-- a name that was given: it has its zone, and a wrapper's target has one
abbrev pub IsMade : GraphState → Name → Type 0
IsMade g (Cell n) = HasSomeZone g (Cell n)
IsMade g (Wrap c t) = HasSomeZone g (Wrap c t) × HasSomeZone g (Cell t) × IsTrue (has_wrapper g c t)

-- where no zone is marking: the black names are present, have the registers, and are closed
pub record IsValidSettled (w : World) : Type 0 where
  pub present : (x : Name) → Has w.black x → IsPresent w x
  pub closed : IsClosed w.graph (Has w.black)

-- while a collection is prepared: no other runs, the black names are present and left out by it, and they have the
-- registers and are closed among what it leaves out
pub record IsValidPreparing (w : World) (p : Preparation) : Type 0 where
  pub alone : w.collection ≡ None
  pub some : p.zones ≡ [] → ⊥
  pub left_out : (x : Name) → Has w.black x → IsLeftOut w p x
  pub closed : IsClosedWithin w.graph (IsLeftOut w p) (Has w.black)

-- while a collection runs: what is present outside the marking zones is in the live closure. (That much can
-- be said of zones whose groups have ended only by a double negation, since the closure is no test.)
pub record IsValidRunning (w : World) (k : Collection) : Type 0 where
  pub starts : (x : Name) → Has k.black_starts x → Has k.live_starts x
  pub others : (x : Name) → IsPresent w x → (IsInZones w.graph k.marking x → ⊥) → (LiveClosure k x → ⊥) → ⊥
  pub outside : (x : Name) → IsPresent w x → (IsInZones w.graph k.zones x → ⊥) → LiveClosure k x

-- while some zone is marking: what is held is in the closures, and what was written since `started` is in the black
-- one, as are the keys of entries that came or went
pub record IsValidMarking (w : World) (k : Collection) : Type 0 where
  pub starts : (x : Name) → Has k.black_starts x → Has k.live_starts x
  pub registers : (r : ℕ) (x : Name) → register_cell w.graph r ≡ Some x → BlackClosure k x
  pub slots : (s : ℕ) (x : Name) → slot_cell w.graph s ≡ Some x → LiveClosure k x
  pub edges : (x y : Name) → HasEdge w.graph x y → HasEdge k.snapshot x y ⊎ BlackClosure k y
  pub entries : (m q v : Name) → value_of w.graph m q ≡ Some v → (value_of k.snapshot m q ≡ Some v) ⊎ BlackClosure k v
  pub keys : (m q v : Name) → value_of w.graph m q ≡ Some v → ((u : Name) × (value_of k.snapshot m q ≡ Some u))
      ⊎ BlackClosure k q
  pub kept : (m q u : Name) → value_of k.snapshot m q ≡ Some u → ((v : Name) × (value_of w.graph m q ≡ Some v))
      ⊎ BlackClosure k q

-- a present wrapper of a later group leads into an earlier one only to what is black
abbrev pub LeadsToBlack : World → Collection → List ℕ → List ℕ → Type 0
LeadsToBlack w k g h =
    (c : CompNo) (t a b : ℕ) → IsPresent w (Wrap c t) → zone_of w.graph (Wrap c t) ≡ Some a
    → zone_of w.graph (Cell t) ≡ Some b → Contains h a → Contains g b → (BlackClosure k (Cell t) → ⊥) → ⊥

-- a present wrapper of an earlier group that is a key of a present map leads into a later one only to what is black
abbrev pub KeysLeadToBlack : World → Collection → List ℕ → List ℕ → Type 0
KeysLeadToBlack w k g h =
    (c : CompNo) (t a b : ℕ) → IsPresent w (Wrap c t) → IsKeyOfPresent w w.graph (Wrap c t)
    → zone_of w.graph (Wrap c t) ≡ Some a → zone_of w.graph (Cell t) ≡ Some b → Contains g a → Contains h b
    → (BlackClosure k (Cell t) → ⊥) → ⊥

-- the groups that have not ended part the marking zones
pub record AreValidGroups (w : World) (k : Collection) (gs : List (List ℕ)) : Type 0 where
  pub in_some : (z : ℕ) → Contains k.marking z → (g : List ℕ) × Contains gs g × Contains g z
  pub marked : (g : List ℕ) (z : ℕ) → Contains gs g → Contains g z → Contains k.marking z
  pub full : (g : List ℕ) → Contains gs g → g ≡ [] → ⊥
  pub apart : EachLater (λ g h. (z : ℕ) → Contains g z → Contains h z → ⊥) gs
  pub backward : EachLater (LeadsToBlack w k) gs
  pub forward : EachLater (KeysLeadToBlack w k) gs

-- before the groups are formed, all zones of the collection are marking
pub record IsUngrouped (k : Collection) : Type 0 where
  pub some : k.zones ≡ [] → ⊥
  pub all : (z : ℕ) → Contains k.zones z → Contains k.marking z
  pub only : (z : ℕ) → Contains k.marking z → Contains k.zones z

-- the invariant of every lawful run
pub record IsValid (w : World) : Type 0 where
  pub graph : IsWellFormed w.graph
  pub presence : NamesOnlyPresent w
  pub made : (x : Name) → IsPresent w x → IsMade w.graph x
  pub settled : IsSettled w → IsValidSettled w
  pub preparing : (p : Preparation) → w.preparing ≡ Some p → IsValidPreparing w p
  pub running : (k : Collection) → w.collection ≡ Some k → IsValidRunning w k
  pub marking : (k : Collection) → w.collection ≡ Some k → IsMarking k → IsValidMarking w k
  pub groups : (k : Collection) (gs : List (List ℕ)) → w.collection ≡ Some k → k.groups ≡ Some gs
      → AreValidGroups w k gs
  pub ungrouped : (k : Collection) → w.collection ≡ Some k → k.groups ≡ None → IsUngrouped k
