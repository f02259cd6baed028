-- A change of the graph: the judge stands for the world after it, if it stood for the one before it.
use Rattle.std.proofs.Common.{◌≡◌, ◌↔◌, ◌∙◌, [], ◌∷◌, ◌++◌, Option, Some, None}
use Rattle.std.proofs.Common.{sym, ap, subst}
use Rattle.std.specs.BTreeMap as tree
use Rattle.std.specs.FinMap as finite
use Rattle.std.specs.FinSet as set
use Rattle.gz_names.specs.declared.names.Name.{Name}
use Rattle.colour_defs.specs.Closure.{Closure}
use Rattle.colour_defs.specs.Graph.{GraphState}
use Rattle.colour_defs.specs.Laws.{IsValid}
use Rattle.colour_defs.specs.Units.{Tally}
use Rattle.colour_defs.specs.World.{AcceptsIn, BlackClosure, Collection, HasPlace, IsPresent}
use Rattle.colour_defs.specs.World.{LiveClosure, Names, World}
use Rattle.colour_defs.proofs.Follows.{Follows}
use Rattle.colour_defs.proofs.ValidCommands.{changed}
use Rattle.plain_graph.specs.Indexed.{order_of}
use Rattle.plain_graph.specs.Reach.{WalkState}
use Rattle.judge.specs.Positions.{StandsIn}
use Rattle.judge.specs.Represents.{HasFound}
use Rattle.judge.specs.Represents.{LiesInPlace}
use Rattle.judge.specs.Stages.{Changes, IsSettled, Shown, Stage}
use Rattle.judge.specs.Stages.{WakesAny}
use Rattle.judge.specs.Walks.{IsFoundBlack, IsFoundLive, Walks}
use Rattle.judge.specs.declared.former.Change.{Change}
use Rattle.judge.proofs.LeadsOn.{LeadsOn}
use Rattle.judge.proofs.Waking.{ByLists, ByNames, woken_too}

-- a change, in the judge's world and in one of the definitions; f is what a collection counts after it
pub record IsChange (k : Change) (h : GraphState) (x also : Option Name) (f : Collection → Tally) (g : GraphState)
    (old new : Shown) (w v : World) : Type 0 where
  pub stands : StandsIn g old w
  pub after : IsValid v
  pub changes : Changes k h x also old new
  pub lies : LiesInPlace h x old new
  pub on : LeadsOn w.graph h
  pub follow : Follows w.graph (record { first = x; also = also }) h
  pub also_there : (s : Name) → also ≡ Some s → IsPresent w s
  pub tally : (c : Collection) → w.collection ≡ Some c → c.tally ≡ old.tally → f c ≡ new.tally
  pub uncounted : w.collection ≡ None → new.tally ≡ old.tally
  pub accepts : AcceptsIn w.preparing w (changed f (λ c. c.woken) w.collection) h x also v

-- what a change leaves as it is
pub record IsBeside (w v : World) (h : GraphState) : Type 0 where
  pub graph_is : v.graph ≡ h
  pub out_is : v.out ≡ w.out
  pub white_is : v.white ≡ w.white
  pub weak_is : v.weak ≡ w.weak
  pub preparing_is : v.preparing ≡ w.preparing

pub beside_placed : (w v : World) (h : GraphState) (x : Name) → HasPlace w h x v → IsBeside w v h
beside_placed w v h x p = record {
  graph_is = p.graph_is;
  out_is = p.out_is;
  white_is = p.white_is;
  weak_is = p.weak_is;
  preparing_is = p.preparing_is;
}

pub beside_graph : (w v : World) (h : GraphState) (black : Names) (c : Option Collection)
    → v ≡ record w { graph = h; black = black; collection = c } → IsBeside w v h
beside_graph w v h black c e = record {
  graph_is = ap (λ (z : World). z.graph) e;
  out_is = ap (λ (z : World). z.out) e;
  white_is = ap (λ (z : World). z.white) e;
  weak_is = ap (λ (z : World). z.weak) e;
  preparing_is = ap (λ (z : World). z.preparing) e;
}

-- where the cells lie
abbrev pub ArePlaced : Shown → World → Type 0
ArePlaced s w = ((y : Name) → finite.get w.places y ≡ tree.get order_of s.cells y) × (w.owner ≡ s.owners)

abbrev pub awake_by : Option Name → Collection → Names
awake_by None k = k.woken
awake_by (Some x) k = set.insert k.woken x

closure_woken : (pick : Walks → WalkState) (g h i : GraphState) (starts woken : Names) (x : Name) (old new : Walks)
    → g ≡ h → i ≡ h → pick new ≡ pick old → new.woken ≡ old.woken ++ x ∷ []
    → ((y : Name) → Closure g (ByNames starts woken) y ↔ Closure h (ByLists (pick old).names old.woken) y) → (y : Name)
    → Closure g (ByNames starts (set.insert woken x)) y ↔ Closure i (ByLists (pick new).names new.woken) y
closure_woken pick g h i starts woken x old new e f names more same y =
    let Named = Closure g (ByNames starts (set.insert woken x)) y in
    subst (λ a. Named ↔ Closure a (ByLists (pick new).names new.woken) y) (e ∙ sym f)
    (subst (λ ws. Named ↔ Closure g (ByLists (pick new).names ws) y) (sym more)
    (subst (λ (p : WalkState). Named ↔ Closure g (ByLists p.names (old.woken ++ x ∷ [])) y) (sym names)
    (woken_too g starts woken (pick old).names old.woken
    (λ z. subst (λ a. Closure g (ByNames starts woken) z ↔ Closure a (ByLists (pick old).names old.woken) z) (sym e)
    (same z)) x y)))

-- what a collection has found, once a name more may be woken
pub found_woken : (x : Option Name) (t : Stage) (old new : Shown) (k : Collection) (tally : Tally)
    → (IsSettled t → ⊥) → new.former.graph ≡ old.former.graph → WakesAny t x old.walks new.walks
    → (walks : Walks) × HasFound old k walks
    → (walks : Walks) × HasFound new (record k { woken = awake_by x k; tally = tally }) walks
found_woken None t old new k tally marks former wakes (walks, has) = (
  walks,
  record {
    walks_are = wakes ∙ has.walks_are;
    former_is = has.former_is ∙ sym former;
    black_are = λ y. subst (λ g. BlackClosure k y ↔ IsFoundBlack g walks y) (sym former) (has.black_are y);
    live_are = λ y. subst (λ g. LiveClosure k y ↔ IsFoundLive g walks y) (sym former) (has.live_are y);
  },
)
found_woken (Some x) t old new k tally marks former wakes (walks, has) =
    let woken = subst (λ o. WakesAny t (Some x) o new.walks) has.walks_are wakes in
    let (after, is, made) = woken in (
      after,
      record {
        walks_are = is;
        former_is = has.former_is ∙ sym former;
        black_are = closure_woken (λ w. w.black) k.snapshot old.former.graph new.former.graph k.black_starts k.woken x
            walks after has.former_is former (ap (λ (w : Walks). w.black) made.rest) (made.marking marks) has.black_are;
        live_are = closure_woken (λ w. w.live) k.snapshot old.former.graph new.former.graph k.live_starts k.woken x
            walks after has.former_is former (ap (λ (w : Walks). w.live) made.rest) (made.marking marks) has.live_are;
      },
    )
