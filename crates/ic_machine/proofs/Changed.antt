-- What a machine keeps, where its tables change.
use Rattle.std.proofs.Common.{◌≡◌, ◌+◌, ◌^◌, ◌<◌, ◌≤◌, ℕ, List, [], length, map, take, ap, sym, subst, refl, ◌∙◌}
use Rattle.std.specs.Global.{Vec}
use Rattle.std.specs.List.{AllByRecursion}
use Rattle.std.proofs.lemmas.List.{append-nil, length-map}
use Rattle.ic_arena.specs.declared.word.TheConstants.{GIVEN}
use Rattle.ic_arena.specs.Piece.{Piece}
use Rattle.ic_arena.specs.Tables.{names_pieces}
use Rattle.ic_machine.specs.declared.machine.Machine.TheInside.{Inside}
use Rattle.ic_machine.specs.declared.tables.Tables.{Tables}
use Rattle.ic_machine.specs.Plan.{ArePlans, Plans, constants}
use Rattle.ic_machine.specs.Net.{equated_of, in_use, pieces, IsPair}
use Rattle.ic_machine.specs.Runs.{Counted, Ran, Way, greatest}
use Rattle.ic_machine.specs.Separate.{IsSeparate}
use Rattle.ic_machine.specs.inner.Firing.{arities_of, heaps_pieces}
use Rattle.ic_machine.specs.inner.Machine.{IsSound, net_of}
use Rattle.ic_machine.specs.inner.Tables.{HasSpare, held, size_at}
use Rattle.ic_machine.specs.lemmas.FiresKeep.{steps_keep}
use Rattle.ic_machine.specs.lemmas.RunsOn.{ran_steps}
use Rattle.ic_machine.proofs.Heaps.{as_many}
use Rattle.ic_machine.proofs.InUse.{net_size}
use Rattle.ic_machine.proofs.Running.{held_way}

-- a machine whose tables and numbers change
abbrev pub changed : Inside → Tables → ℕ → Vec ℕ → Inside
changed m t k counts = record m { tables = t; interactions = k; counts = counts }

-- a machine, of whose memory so much is spare
abbrev pub with_spare : Inside → ℕ → Inside
with_spare m n = record m { tables = record m.tables { spare = n } }

pub with_spare_sound : (m : Inside) (n : ℕ) → IsSound m → HasSpare (with_spare m n).tables → IsSound (with_spare m n)
with_spare_sound m n s spare = record {
  separate = s.separate;
  pairs = s.pairs;
  aside = s.aside;
  names = s.names;
  symbols = s.symbols;
  registers = s.registers;
  spare = spare;
  counts = s.counts;
}

module _ (q : Plans) (m : Inside) (t : Tables) (k : ℕ) (counts : Vec ℕ)
    (arities : arities_of t.heaps.items ≡ arities_of m.tables.heaps.items) where
  -- pairs fire in its tables
  pub changed_ran : (is : List ℕ) (ms : List (List Piece))
      → Way q is ms (held m.tables (map equated_of m.aside.items)) (held t (map equated_of m.aside.items))
      → ((kind : ℕ) → size_at kind t ≡ greatest (size_at kind m.tables) (map (in_use kind) ms)) → k ≡ m.interactions + length is
      → Counted is m.counts.items counts.items → Ran q (net_of m) (net_of (changed m t k counts))
  changed_ran is ms way places counted each = record {
    fired = is;
    moments = ms;
    way = held_way q is ms m.tables.pending.items m.aside.items t.pending.items
        (names_pieces 0 m.tables.names.entries) (heaps_pieces 0 m.tables.heaps.items)
        (names_pieces 0 t.names.entries) (heaps_pieces 0 t.heaps.items) way;
    places = λ kind. net_size (changed m t k counts) kind
        ∙ (places kind ∙ ap (λ (n : ℕ). greatest n (map (in_use kind) ms)) (sym (net_size m kind)));
    symbols = length-map t.heaps.items (λ b. b.count)
        ∙ (as_many m.tables.heaps.items t.heaps.items arities ∙ sym (length-map m.tables.heaps.items (λ b. b.count)));
    counted = counted;
    counts = each;
    arities = arities;
    interface = refl;
    more = [];
    aside = sym (append-nil m.aside.items);
    stuck = tt;
  }

  pub changed_ran-fired : (is : List ℕ) (ms : List (List Piece))
      (way : Way q is ms (held m.tables (map equated_of m.aside.items)) (held t (map equated_of m.aside.items)))
      (places : (kind : ℕ) → size_at kind t ≡ greatest (size_at kind m.tables) (map (in_use kind) ms)) (counted : k ≡ m.interactions + length is)
      (each : Counted is m.counts.items counts.items) → (changed_ran is ms way places counted each).fired ≡ is
  unfolding changed_ran
  changed_ran-fired is ms way places counted each = refl

  -- it keeps what it kept
  pub changed_sound : Ran q (net_of m) (net_of (changed m t k counts)) → IsSound m → ArePlans q
      → arities_of m.tables.heaps.items ≡ q.arities → AllByRecursion IsPair t.pending.items → length t.names.entries < 2 ^ 32
      → take (length t.heaps.items) t.registers.items ≡ constants (length t.heaps.items) → HasSpare t
      → AllByRecursion (λ n. n ≤ k) counts.items → IsSound (changed m t k counts)
  changed_sound ran sound plans known pairs few registers spare fired = record {
    separate = subst (λ (a : List ℕ). IsSeparate a m.interface.items (pieces (net_of (changed m t k counts))))
        (sym (arities ∙ known))
        (steps_keep q ran.fired m.interface.items (pieces (net_of m)) (pieces (net_of (changed m t k counts))) plans
        (ran_steps q (net_of m) (net_of (changed m t k counts)) ran)
        (subst (λ (a : List ℕ). IsSeparate a m.interface.items (pieces (net_of m))) known sound.separate));
    pairs = pairs;
    aside = sound.aside;
    names = few;
    symbols = subst (λ (n : ℕ). n < GIVEN) (sym (as_many m.tables.heaps.items t.heaps.items arities)) sound.symbols;
    registers = registers;
    spare = spare;
    counts = fired;
  }
