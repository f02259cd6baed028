use Rattle.std.proofs.Common.{◌≡◌, ◌∙◌, ◌++◌, ℕ, List, Option, filter, map, reverse, ap, subst, sym}
use Rattle.std.proofs.lemmas.Result.{on_ok_weaker}
use Rattle.gz_names.specs.Zones.{zones_in}
use Rattle.gz_names.specs.declared.names.Name.{Name}
use Rattle.colour_defs.specs.Ends.{arenas_from}
use Rattle.judge.specs.Arenas.{owners_in}
use Rattle.judge.specs.Cells.{Cells, LetsGo}
use Rattle.judge.specs.Former.{Releases}
use Rattle.judge.specs.Walks.{walks_of}
use Rattle.judge.specs.Weak.{AreUnwatched, if_present, is_watched}
use Rattle.judge.specs.Whites.{AreByArena}
use Rattle.judge.specs.declared.arenas.Arenas.{Arenas}
use Rattle.judge.specs.declared.former.Former.{Former}
use Rattle.judge.specs.declared.weak.WeakNames.{WeakNames}
use Rattle.judge.specs.declared.whites.Whites.{Whites}
use Rattle.judge.specs.declared.world.World.{World}
use Rattle.judge.proofs.NewCells.{spread_of}
use Rattle.judge.proofs.Results.{on_ok_known}
use Rattle.judge.proofs.Watching.{unwatched_as}
use Rattle.judge.proofs.world.World.end_group.Goals as goal

pub returns-clause-places : goal.returns-clause-places
returns-clause-places c =
    let old = c.args.self.now.places in
    let mid = c.let_go.new.self.places in
    let names = c.args.end.now.whites.items in
    let same : c.settle.new.self.places ≡ mid =
    c.settle.ensures.places ∙ ap (λ (w : World). w.places) c.end_first.ensures.rest in
    on_ok_known c.settle.result (subst (λ (cells : Cells). LetsGo names old cells) (sym same)
    (subst (λ (ns : List Name). LetsGo ns old mid) c.as_slice-2.ensures.value c.let_go.ensures.places))

pub returns-clause-settles : goal.returns-clause-settles
returns-clause-settles c =
    let rest = c.end_first.ensures.rest in
    let went = c.let_go.ensures in
    let former = ap (λ (w : World). w.former) rest ∙ went.former in
    let black = ap (λ (w : World). w.black) rest ∙ went.black in
    let walks = c.end_first.ensures.walks ∙ ap walks_of went.phase in
    on_ok_weaker c.settle.result (λ s. record {
      left = λ h. let l = s.left h in (l.0 ∙ walks, l.1 ∙ former, l.2 ∙ black);
      over = λ n. let o = s.over n in (
        subst (λ (f : Former). Releases f c.settle.new.self.former) former o.0,
        λ w e. o.1 w (walks ∙ e),
      );
    }) c.settle.ensures.settles

pub returns-clause-owners : goal.returns-clause-owners
returns-clause-owners c =
    on_ok_known c.settle.result (ap owners_in c.settle.ensures.arenas
    ∙ ap (λ (w : World). owners_in w.arenas) c.end_first.ensures.rest ∙ c.in_ok-hand_out.ensures.owners
    ∙ c.let_go.ensures.arenas.owners)

pub returns-clause-out : goal.returns-clause-out
returns-clause-out c =
    let zones = zones_in c.args.end.now.zones in
    let mid = c.let_go.new.self.arenas in
    on_ok_known c.settle.result (ap (λ (a : Arenas). reverse a.out.items) c.settle.ensures.arenas
    ∙ ap (λ (w : World). reverse w.arenas.out.items) c.end_first.ensures.rest ∙ c.in_ok-hand_out.ensures.out
    ∙ ap (λ (os : List (Option ℕ)). arenas_from 0 os zones ++ reverse mid.out.items)
    c.let_go.ensures.arenas.owners
    ∙ ap (λ (xs : List ℕ). arenas_from 0 (owners_in c.args.self.now.arenas) zones ++ reverse xs)
    c.let_go.ensures.arenas.out)

pub returns-clause-whites : goal.returns-clause-whites
returns-clause-whites c =
    let cells = c.args.self.now.places in
    let kept = c.in_ok-self.field-0 in
    let same = c.settle.ensures.whites ∙ ap (λ (w : World). w.whites) c.end_first.ensures.rest
    ∙ c.let_go.ensures.whites in
    on_ok_known c.settle.result (subst (λ (ws : Whites). AreByArena cells c.args.end.now.whites.items ws) (sym same)
    (subst (λ (ns : List Name). AreByArena cells ns kept) c.as_slice.ensures.value c.in_ok-self.ensures))

pub returns-clause-tally : goal.returns-clause-tally
returns-clause-tally c =
    on_ok_weaker c.settle.result (λ e. e ∙ ap (λ (w : World). w.tally) c.end_first.ensures.rest
    ∙ c.let_go.ensures.tally) c.settle.ensures.tally

pub returns-clause-slots : goal.returns-clause-slots
returns-clause-slots c =
    let mid = c.let_go.new.self.places in
    let same : c.settle.new.self.places ≡ mid =
    c.settle.ensures.places ∙ ap (λ (w : World). w.places) c.end_first.ensures.rest in
    let weak = c.settle.ensures.weak ∙ ap (λ (w : World). w.weak) c.end_first.ensures.rest in
    on_ok_known c.settle.result (ap (λ (w : WeakNames). w.slots) weak ∙ c.in_ok-self-2.ensures.slots
    ∙ ap (λ (w : WeakNames). map (if_present mid) w.slots) c.let_go.ensures.weak
    ∙ ap (λ (cells : Cells). map (if_present cells) c.args.self.now.weak.slots) (sym same))

pub returns-clause-watched : goal.returns-clause-watched
returns-clause-watched c =
    let before = c.args.self.now.weak in
    let weak = c.settle.ensures.weak ∙ ap (λ (w : World). w.weak) c.end_first.ensures.rest in
    let told = c.settle.ensures.told ∙ ap (λ (w : World). w.told) c.end_first.ensures.rest in
    let names = c.in_ok-self-2.field-0 in
    on_ok_known c.settle.result (unwatched_as before c.lose.new.self c.settle.new.self.weak names
    c.settle.new.self.told (ap (λ (w : WeakNames). w.watched) weak) told
    (subst (λ (w : WeakNames). AreUnwatched w names c.lose.new.self) c.let_go.ensures.weak
    c.in_ok-self-2.ensures.watched))

pub returns-clause-told : goal.returns-clause-told
returns-clause-told c =
    let told = c.settle.ensures.told ∙ ap (λ (w : World). w.told) c.end_first.ensures.rest in
    on_ok_known c.settle.result (told ∙ c.in_ok-self-2.ensures.told
    ∙ ap (λ (ns : List Name). filter (is_watched c.let_go.new.self.weak) ns) c.as_slice-3.ensures.value
    ∙ ap (λ (w : WeakNames). filter (is_watched w) c.args.end.now.whites.items) c.let_go.ensures.weak)

pub of_names-requires-clause-spread : goal.of_names-requires-clause-spread
of_names-requires-clause-spread c = spread_of c.args.self.now.places c.args.self.now.arenas c.args.self.now.laid
