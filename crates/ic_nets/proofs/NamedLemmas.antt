-- The wire of a name is that between the ports at which it stands.
use Rattle.std.proofs.Common.{◌≡◌, ℕ, ◌==◌, List, [], ◌∷◌, Bool, true, false, cond, Option, None, Some, fold, filter, map, refl, sym, ap, ◌∙◌}
use Rattle.std.specs.Cmp.{unsigned_Decides}
use Rattle.std.proofs.lemmas.Bool.{true≢false}
use Rattle.ic_nets.specs.Nets.{named_wires, wire_of, with_standing}
use Rattle.ic_nets.specs.Likeness.{ports_at, wire_named}
use Rattle.ic_nets.specs.declared.net.Wire.{Wire}
use Rattle.ic_nets.specs.declared.links.Standing.{Standing}
use Rattle.ic_nets.specs.declared.port.Port.{Port}
use Rattle.ic_nets.specs.declared.port.Port.TheVariants.{Free}

module _ (n : ℕ) where
  -- once a name stands at one more port, its wire ends there, and other wires stay
  named-more : (es : List (ℕ × Wire)) (s : Standing) → wire_named n (with_standing es s) ≡ cond (s.name == n) (Some (wire_of (wire_named n es) s)) (wire_named n es)
  named-more [] s = refl
  named-more (e ∷ es) s = by (s.name == e.0) refl (named-more es s)
    where
      at_own : (b c : Bool) → b ≡ c → cond b (Some (wire_of (Some e.1) s)) (wire_named n es) ≡ cond c (Some (wire_of (cond b (Some e.1) (wire_named n es)) s)) (cond b (Some e.1) (wire_named n es))
      at_own true false e1 = absurd (true≢false e1)
      at_own false true e1 = absurd (true≢false (sym e1))
      at_own _ _ e1 = refl

      at_other : (b c : Bool) (x : Option Wire) → (b ≡ true → c ≡ false) → x ≡ cond c (Some (wire_of (wire_named n es) s)) (wire_named n es)
          → cond b (Some e.1) x ≡ cond c (Some (wire_of (cond b (Some e.1) (wire_named n es)) s)) (cond b (Some e.1) (wire_named n es))
      at_other true c x off e1 = rw (off refl) refl
      at_other false c x off e1 = e1

      by : (b : Bool) → (s.name == e.0) ≡ b → wire_named n (with_standing es s) ≡ cond (s.name == n) (Some (wire_of (wire_named n es) s)) (wire_named n es)
          → wire_named n (cond b ((e.0, wire_of (Some e.1) s) ∷ es) (e ∷ with_standing es s)) ≡ cond (s.name == n) (Some (wire_of (wire_named n (e ∷ es)) s)) (wire_named n (e ∷ es))
      by true is rest = at_own (e.0 == n) (s.name == n) (ap (λ m. m == n) (sym ((unsigned_Decides s.name e.0).0 is)))
      by false is rest =
          let off : (e.0 == n) ≡ true → (s.name == n) ≡ false = λ f. ap (λ m. s.name == m) (sym ((unsigned_Decides e.0 n).0 f)) ∙ is in
          at_other (e.0 == n) (s.name == n) (wire_named n (with_standing es s)) off rest

  -- the wire of a name that stands at these ports too
  abbrev pub led : Option Wire → List Port → Option Wire
  led o ps = fold (λ (found : Option Wire) (p : Port). Some (wire_of found (record { name = n; port = p }))) o ps

  pub named-all : (es : List (ℕ × Wire)) (ss : List Standing) → wire_named n (fold with_standing es ss) ≡ led (wire_named n es) (ports_at n ss)
  named-all es [] = refl
  named-all es (s ∷ ss) = named-all (with_standing es s) ss ∙ ap (λ o. led o (ports_at n ss)) (named-more es s) ∙ by (s.name == n) refl
    where
      by : (b : Bool) → (s.name == n) ≡ b
          → led (cond b (Some (wire_of (wire_named n es) s)) (wire_named n es)) (ports_at n ss) ≡ led (wire_named n es) (map (λ (x : Standing). x.port) (cond b (s ∷ filter (λ (x : Standing). x.name == n) ss) (filter (λ (x : Standing). x.name == n) ss)))
      by true is = ap (λ m. led (Some (wire_of (wire_named n es) (record { name = m; port = s.port }))) (ports_at n ss)) ((unsigned_Decides s.name n).0 is)
      by false is = refl

  pub named_once : (ss : List Standing) (p : Port) → ports_at n ss ≡ p ∷ [] → wire_named n (named_wires ss) ≡ Some (record { from = p; to = Free n; active = false })
  named_once ss p is = named-all [] ss ∙ ap (led None) is

  pub named_twice : (ss : List Standing) (p q : Port) → ports_at n ss ≡ p ∷ q ∷ [] → wire_named n (named_wires ss) ≡ Some (record { from = p; to = q; active = false })
  named_twice ss p q is = named-all [] ss ∙ ap (led None) is
