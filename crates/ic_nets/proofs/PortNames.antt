-- Each net has names for its ports.
use Rattle.std.proofs.Common.{◌≡◌, ℕ, zero, suc, ◌+◌, ◌≤◌, ◌<◌, ◌==◌, inl, inr, List, [], ◌∷◌, true, refl, sym, ap, arith}
use Rattle.std.proofs.lemmas.Bool.{and_parts, cases_Bool, eqb-true, true≢false}
use Rattle.ic_term.specs.Configuration.{Configuration, IsConfiguration}
use Rattle.ic_settle.specs.Settling.{settled}
use Rattle.ic_rules.specs.Rule.{Rule}
use Rattle.ic_confluence.specs.Sameness.{Same, through}
use Rattle.ic_nets.specs.Nets.{IsNet}
use Rattle.ic_nets.specs.Likeness.{is_bound, port_eq, ports_of, times}
use Rattle.ic_nets.specs.inner.ReadBack.{IsNaming}
use Rattle.ic_nets.specs.declared.net.Net.{Net}
use Rattle.ic_nets.specs.declared.port.Port.{Port}
use Rattle.ic_nets.specs.declared.port.Port.TheVariants.{Interface, Principal, Auxiliary, Left, Right, Free}
use Rattle.ic_nets.proofs.SumLemmas.{bit}
use Rattle.ic_nets.proofs.OnceLemmas.{free-none, ports-parted}
use Rattle.ic_nets.proofs.LeadLemmas.{Laws}
use Rattle.ic_nets.proofs.NamingLemmas.{found_again}

-- a number of each pair of numbers: an odd one, doubled so many times
abbrev pub paired : ℕ → ℕ → ℕ
paired zero n = n + n + 1
paired (suc m) n = paired m n + paired m n

pub paired-apart : (a b m n : ℕ) → paired a b ≡ paired m n → (a ≡ m) × (b ≡ n)
paired-apart zero b zero n e = (refl, omega (arith, e))
paired-apart (suc a) b (suc m) n e = let rest = paired-apart a b m n (omega (arith, e)) in (ap suc rest.0, rest.1)
paired-apart _ b _ n e = absurd (omega (arith, e))

abbrev kind_of : Port → ℕ
kind_of (Interface i) = 0
kind_of (Principal k) = 1
kind_of (Left j) = 2
kind_of (Right j) = 3
kind_of (Free n) = 4
kind_of (Auxiliary k i) = k + 5

abbrev pub place_of : Port → ℕ
place_of (Interface i) = i
place_of (Principal k) = k
place_of (Left j) = j
place_of (Right j) = j
place_of (Free n) = n
place_of (Auxiliary k i) = i

abbrev pub port_number : Port → ℕ
port_number p = paired (kind_of p) (place_of p)

same_port : (p q : Port) → kind_of p ≡ kind_of q → place_of p ≡ place_of q → p ≡ q
same_port (Interface i) (Interface j) kinds places = ap Interface places
same_port (Principal i) (Principal j) kinds places = ap Principal places
same_port (Left i) (Left j) kinds places = ap Left places
same_port (Right i) (Right j) kinds places = ap Right places
same_port (Free m) (Free n) kinds places = ap Free places
same_port (Auxiliary k i) (Auxiliary l j) kinds places = let agents : k ≡ l = omega (arith, kinds) in λ h. Auxiliary (agents h) (places h)
same_port p q kinds places = absurd (omega (arith, kinds))

pub port_one : (p q : Port) → port_number p ≡ port_number q → p ≡ q
port_one p q same = let both = paired-apart (kind_of p) (place_of p) (kind_of q) (place_of q) same in same_port p q both.0 both.1

pub equal_ports : (p q : Port) → port_eq p q ≡ true → p ≡ q
equal_ports (Interface i) (Interface j) e = ap Interface (eqb-true i j e)
equal_ports (Principal i) (Principal j) e = ap Principal (eqb-true i j e)
equal_ports (Left i) (Left j) e = ap Left (eqb-true i j e)
equal_ports (Right i) (Right j) e = ap Right (eqb-true i j e)
equal_ports (Free i) (Free j) e = ap Free (eqb-true i j e)
equal_ports (Auxiliary k i) (Auxiliary l j) e = let both = and_parts (k == l) (i == j) e in λ h. Auxiliary (eqb-true k l both.0 h) (eqb-true i j both.1 h)
equal_ports p q e = absurd (true≢false (sym e))

-- above the numbers that these ports have
abbrev pub reach : (Port → ℕ) → List Port → ℕ
reach number [] = 0
reach number (p ∷ ps) = number p + 1 + reach number ps

pub reached : (number : Port → ℕ) (p : Port) (ps : List Port) → 1 ≤ times p ps → number p < reach number ps
reached number p [] some = absurd (omega (arith, some))
reached number p (q ∷ qs) some =
    let rest = reached number p qs in
    elim (cases_Bool (port_eq p q)) [
      | inl is ↦ omega (arith, ap number (equal_ports p q is))
      | inr isnt ↦ omega (arith, rest (omega (arith, some, ap bit isnt)))
    ]

abbrev pub numbered : ℕ → Port → ℕ
numbered first (Free n) = n
numbered first p = first + port_number p

numbered_bound : (first : ℕ) (p : Port) → is_bound p ≡ true → numbered first p ≡ first + port_number p
numbered_bound first (Free n) b = absurd (true≢false (sym b))
numbered_bound first p b = refl

numbered_below : (net : Net) (first : ℕ) (p : Port) → times p (ports_of net) ≡ 1 → numbered first p < first + reach port_number (ports_of net)
numbered_below net first (Free n) once = absurd (omega (arith, ports-parted net (Free n), free-none n net.interface net.agents.items net.joints, once))
numbered_below net first p once = omega (arith, reached port_number p (ports_of net) (omega (arith, once)))

pub numbering : (net : Net) (first : ℕ) → IsNaming (numbered first) first (first + reach port_number (ports_of net)) net
numbering net first = record {
  free = λ n. refl;
  apart = λ p q b d same. port_one p q (omega (arith, same, numbered_bound first p b, numbered_bound first q d));
  new = λ p b. omega (arith, numbered_bound first p b);
  below = numbered_below net first;
  room = omega arith;
}

pub ports_named : (net : Net) (first : ℕ) → (name_of : Port → ℕ) × (next : ℕ) × IsNaming name_of first next net
ports_named net first = (numbered first, first + reach port_number (ports_of net), numbering net first)

-- a smaller first number
from_lower : (name_of : Port → ℕ) (first lower next : ℕ) (net : Net) → lower ≤ first → IsNaming name_of first next net → IsNaming name_of lower next net
from_lower name_of first lower next net le naming = record {
  free = naming.free;
  apart = naming.apart;
  new = λ p b. omega (arith, naming.new p b, le);
  below = naming.below;
  room = omega (arith, naming.room, le);
}

pub one_net : (laws : Laws) (rs : List Rule) (c d : Configuration) (net : Net) → IsConfiguration c → IsConfiguration d → IsNet rs c net → IsNet rs d net
    → (next : ℕ) × Same (settled (record c { next = next })) (settled (record d { next = next }))
one_net laws rs c d net sound_c sound_d of_c of_d =
    let first = c.next + d.next in
    let next = first + reach port_number (ports_of net) in
    let naming = numbering net first in
    let found_c = found_again rs c net (numbered first) next sound_c of_c (from_lower (numbered first) first c.next next net (omega arith) naming) laws in
    let found_d = found_again rs d net (numbered first) next sound_d of_d (from_lower (numbered first) first d.next next net (omega arith) naming) laws in
    (next, through _ _ _ (laws.back _ _ found_c) found_d)
