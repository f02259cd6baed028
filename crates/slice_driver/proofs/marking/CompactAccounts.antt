-- Compacting a zone gives no number, and lists nothing as freed.
use Rattle.std.proofs.Common.{◌≡◌, ℕ, append-nil, sym, subst, List, [], Option, Result, Ok, Err, IfOk, OnErr}
use Rattle.gz_names.specs.declared.names.Name.{Name}
use Rattle.cell_bits.specs.declared.bits.Bits.{Bits}
use Rattle.collection_laws.specs.Numbers.{IsAccounted}
use Rattle.collection_laws.proofs.MovedNumbers.{compacts_accounts}
use Rattle.compact.specs.declared.Compacted.{Compacted}
use Rattle.slice_driver.specs.Accounts.{FreesOn}
use Rattle.slice_driver.specs.Collector.{CollectorState}
use Rattle.slice_driver.specs.Compacting.{CompactsIn}
use Rattle.slice_driver.specs.declared.compacting.CompactFault.{CompactFault}
use Rattle.slice_driver.proofs.marking.Accounts.{stays_on}

pub compact_frees_on : (c : CollectorState) (f : ℕ → Option Bits) (d : CollectorState) (zone : ℕ)
    (r : Result Compacted CompactFault) → IfOk r (λ done. CompactsIn c zone done d) → OnErr r (d ≡ c)
    → FreesOn c f [] d f
compact_frees_on c f d zone (Ok done) does same given freed a =
    let b = does f a.world a.valid a.represents in
    record {
      world = b.0;
      valid = b.2;
      represents = b.3;
      accounted = subst (λ (l : List Name). IsAccounted b.0 given l) (sym (append-nil freed))
          (compacts_accounts a.world zone done.moved done.given_up b.0 b.1 given freed a.accounted);
    }
compact_frees_on c f d zone (Err why) does same given freed a = stays_on c f d f same (λ w rep. rep) given freed a
