use Rattle.std.proofs.Common.{◌∙◌, List, sym, ap, subst}
use Rattle.gz_names.specs.Moves.{GoApart}
use Rattle.weak_maps.specs.Entries.{AreTied, EntriesState}
use Rattle.weak_maps.specs.Moving.{AreNamed}
use Rattle.weak_maps.specs.Sides.{SideState, number_of}
use Rattle.weak_maps.specs.declared.entries.WeakEntry.{WeakEntry}
use Rattle.weak_maps.proofs.Forwarding.{AreTied-gone}
use Rattle.weak_maps.specs.Tables.{entries_of}
use Rattle.weak_maps.proofs.Sound.{AreEntries-from_tied}
use Rattle.weak_maps.proofs.Tying.{AreParallel-tied}
use Rattle.weak_maps.proofs.entries.Entries.forward.Goals as goal

pub returns-in_err-table-clause-sound : goal.returns-in_err-table-clause-sound
returns-in_err-table-clause-sound c =
    rw (← c.self.view_is)
    (AreEntries-from_tied (entries_of c.self.inside.table) c.self.inside.by_map c.self.inside.by_key c.self.invariant)

pub returns-in_err-by_map-clause-parallel : goal.returns-in_err-by_map-clause-parallel
returns-in_err-by_map-clause-parallel c =
    rw (← c.self.view_is)
    (AreParallel-tied (entries_of c.self.inside.table) c.self.inside.by_map c.self.inside.by_key c.self.invariant)

pub returns-in_err-by_map-clause-sound : goal.returns-in_err-by_map-clause-sound
returns-in_err-by_map-clause-sound c =
    rw (← c.self.view_is)
    (AreEntries-from_tied (entries_of c.self.inside.table) c.self.inside.by_map c.self.inside.by_key c.self.invariant)

pub returns-in_err-by_key-clause-parallel : goal.returns-in_err-by_key-clause-parallel
returns-in_err-by_key-clause-parallel c =
    rw (← c.self.view_is)
    (AreParallel-tied (entries_of c.self.inside.table) c.self.inside.by_map c.self.inside.by_key c.self.invariant)

pub returns-in_err-by_key-clause-sound : goal.returns-in_err-by_key-clause-sound
returns-in_err-by_key-clause-sound c =
    rw (← c.self.view_is)
    (AreEntries-from_tied (entries_of c.self.inside.table) c.self.inside.by_map c.self.inside.by_key c.self.invariant)

pub set_heads-requires : goal.set_heads-requires
set_heads-requires c = (c.args.moves.now, c.in_ok-by_map.ensures.numbers)

pub set_heads-requires-2 : goal.set_heads-requires-2
set_heads-requires-2 c = (c.args.moves.now, c.in_ok-by_key.ensures.numbers)

pub invariant_of-self : goal.invariant_of-self
invariant_of-self c =
    let inside = c.self.inside in
    let moves = c.args.moves.now in
    let old = entries_of inside.table in
    let goes : GoApart (AreNamed old) moves =
    subst (λ (e : EntriesState). GoApart (AreNamed e.table.entries) moves) (sym c.self.view_is) c.requires in
    let maps = c.set_heads.ensures.heads in
    let keys = c.set_heads-2.ensures.heads in
    let tied : AreTied (entries_of c.in_ok-table.table) c.set_heads.new.self c.set_heads-2.new.self =
    subst (λ (es : List WeakEntry). AreTied es c.set_heads.new.self c.set_heads-2.new.self) (sym c.in_ok-table.ensures)
    (AreTied-gone moves old inside.by_map inside.by_key goes c.self.invariant c.set_heads.new.self
    c.set_heads-2.new.self (record {
      side = c.set_heads.ensures.side;
      owners = ap (λ (s : SideState). s.owners) maps;
      numbers = λ q. ap (λ (s : SideState). number_of s q) maps ∙ c.in_ok-by_map.ensures.numbers q;
    }) (record {
      side = c.set_heads-2.ensures.side;
      owners = ap (λ (s : SideState). s.owners) keys;
      numbers = λ q. ap (λ (s : SideState). number_of s q) keys ∙ c.in_ok-by_key.ensures.numbers q;
    })) in
    tied

pub returns-clause-parallel : goal.returns-clause-parallel
returns-clause-parallel c =
    let inside = c.self.inside in
    let moves = c.args.moves.now in
    let old = entries_of inside.table in
    let goes : GoApart (AreNamed old) moves =
    subst (λ (e : EntriesState). GoApart (AreNamed e.table.entries) moves) (sym c.self.view_is) c.requires in
    let maps = c.set_heads.ensures.heads in
    let keys = c.set_heads-2.ensures.heads in
    let tied : AreTied (entries_of c.in_ok-table.table) c.set_heads.new.self c.set_heads-2.new.self =
    subst (λ (es : List WeakEntry). AreTied es c.set_heads.new.self c.set_heads-2.new.self) (sym c.in_ok-table.ensures)
    (AreTied-gone moves old inside.by_map inside.by_key goes c.self.invariant c.set_heads.new.self
    c.set_heads-2.new.self (record {
      side = c.set_heads.ensures.side;
      owners = ap (λ (s : SideState). s.owners) maps;
      numbers = λ q. ap (λ (s : SideState). number_of s q) maps ∙ c.in_ok-by_map.ensures.numbers q;
    }) (record {
      side = c.set_heads-2.ensures.side;
      owners = ap (λ (s : SideState). s.owners) keys;
      numbers = λ q. ap (λ (s : SideState). number_of s q) keys ∙ c.in_ok-by_key.ensures.numbers q;
    })) in
    AreParallel-tied (entries_of c.in_ok-table.table) c.set_heads.new.self c.set_heads-2.new.self tied

pub returns-clause-sound : goal.returns-clause-sound
returns-clause-sound c =
    let inside = c.self.inside in
    let moves = c.args.moves.now in
    let old = entries_of inside.table in
    let goes : GoApart (AreNamed old) moves =
    subst (λ (e : EntriesState). GoApart (AreNamed e.table.entries) moves) (sym c.self.view_is) c.requires in
    let maps = c.set_heads.ensures.heads in
    let keys = c.set_heads-2.ensures.heads in
    let tied : AreTied (entries_of c.in_ok-table.table) c.set_heads.new.self c.set_heads-2.new.self =
    subst (λ (es : List WeakEntry). AreTied es c.set_heads.new.self c.set_heads-2.new.self) (sym c.in_ok-table.ensures)
    (AreTied-gone moves old inside.by_map inside.by_key goes c.self.invariant c.set_heads.new.self
    c.set_heads-2.new.self (record {
      side = c.set_heads.ensures.side;
      owners = ap (λ (s : SideState). s.owners) maps;
      numbers = λ q. ap (λ (s : SideState). number_of s q) maps ∙ c.in_ok-by_map.ensures.numbers q;
    }) (record {
      side = c.set_heads-2.ensures.side;
      owners = ap (λ (s : SideState). s.owners) keys;
      numbers = λ q. ap (λ (s : SideState). number_of s q) keys ∙ c.in_ok-by_key.ensures.numbers q;
    })) in
    AreEntries-from_tied (entries_of c.in_ok-table.table) c.set_heads.new.self c.set_heads-2.new.self tied
