-- The equations of wires, and those of what is joined.
use Rattle.std.proofs.Common.{◌≡◌, ℕ, suc, ◌+◌, ◌≤◌, ◌==◌, ◌⊎◌, inl, inr, List, [], ◌∷◌, ◌++◌, Bool, true, false, cond, Some, fold, map, refl, sym, ap, ◌∙◌, eq-eqb}
use Rattle.std.proofs.lemmas.Bool.{eqb-true, true≢false}
use Rattle.ic_term.specs.Tree.{Tree, name, Pair}
use Rattle.ic_confluence.specs.Sameness.{Rearranged, kept, itself, swapped, one_by_one}
use Rattle.ic_nets.specs.Nets.{are_names, plain_wires, standings, standings_between, wire_between, wire_of, with_standing}
use Rattle.ic_nets.specs.Likeness.{is_bound}
use Rattle.ic_nets.specs.inner.ReadBack.{equated, joint_equations, wire_equation, wire_equations}
use Rattle.ic_nets.specs.declared.net.Wire.{Wire}
use Rattle.ic_nets.specs.declared.links.End.{End}
use Rattle.ic_nets.specs.declared.links.End.TheVariants.{At, Named}
use Rattle.ic_nets.specs.declared.links.Link.{Link}
use Rattle.ic_nets.specs.declared.links.Standing.{Standing}
use Rattle.ic_nets.specs.declared.port.Port.{Port}
use Rattle.ic_nets.specs.declared.port.Port.TheVariants.{Left, Right, Free}
use Rattle.ic_nets.proofs.PortLemmas.{AreBound, joints, standing_ports}
use Rattle.ic_nets.proofs.NameLemmas.{AreFew, AreOwn, at_first, at_rest, first_low, next_few, own_added, own_wires, stands}
use Rattle.ic_nets.proofs.LeadLemmas.{Laws, Leads, after_these, before, exchange, leads-itself, leads-rearranged, leads-through, moved_after, parts, put_alone, put_right, turn}
use Rattle.ic_nets.proofs.BuiltLemmas.{end_tree, link_equations}

-- an equation goes after three lists
after_three : (p : Pair) (xs ys zs es : List Pair) → Rearranged (p ∷ (xs ++ (ys ++ (zs ++ es)))) (xs ++ (ys ++ (zs ++ (p ∷ es))))
after_three p xs ys zs es =
    one_by_one _ _ _ (moved_after p xs (ys ++ (zs ++ es))) (after_these xs _ _ (one_by_one _ _ _ (moved_after p ys (zs ++ es)) (after_these ys _ _ (moved_after p zs es))))

module _ (name_of : Port → ℕ) where
  -- a name at a port, as an equation
  abbrev pub standing_equation : Standing → Pair
  standing_equation s = equated (name (name_of s.port)) (name s.name)

  abbrev pub standing_equations : List Standing → List Pair
  standing_equations ss = map standing_equation ss

  module _ (laws : Laws) (n : ℕ) (ts : List Tree) where
    -- ---- wires, names at ports and points are what is joined

    module _ (ls : List Link) (j : ℕ) (es : List Pair) where
      abbrev js : ℕ → List Pair
      js i = joint_equations name_of i (joints ls)

      abbrev ws : List Pair
      ws = wire_equations name_of (plain_wires ls)

      abbrev ss : ℕ → List Pair
      ss i = standing_equations (standings i ls)

      abbrev links : List Pair
      links = link_equations name_of ls

      -- what is joined first, from one end to another, and the rest
      abbrev Joined : Bool → End → End → Type 0
      Joined active from to = Leads
          (parts ts (joint_equations name_of j (cond (are_names from to) (suc (joints ls)) (joints ls))
          ++ (wire_equations name_of (wire_between active from to ++ plain_wires ls)
          ++ (standing_equations (standings_between j from to ++ standings (cond (are_names from to) (j + 1) j) ls) ++ es))) n)
          (parts ts (equated (end_tree name_of from) (end_tree name_of to) ∷ (links ++ es)) n)

      abbrev Rest : ℕ → List Pair → Type 0
      Rest i more = Leads (parts ts (js i ++ (ws ++ (ss i ++ more))) n) (parts ts (links ++ more) n)

      one_stood : ((i : ℕ) (more : List Pair) → Rest i more) → (w : Pair) → Leads (parts ts (js j ++ (ws ++ (w ∷ (ss j ++ es)))) n) (parts ts (w ∷ (links ++ es)) n)
      one_stood rest w =
          leads-through laws _ _ _ (leads-rearranged laws ts n _ _ (after_these (js j) _ _ (after_these ws _ _ (moved_after w (ss j) es))))
          (leads-through laws _ _ _ (rest j (w ∷ es)) (leads-rearranged laws ts n _ _ (before w links es)))

      joined-by : ((i : ℕ) (more : List Pair) → Rest i more) → (active : Bool) (from to : End) → Joined active from to
      joined-by rest active (At p) (At q) =
          let w = equated (name (name_of p)) (name (name_of q)) in
          leads-through laws _ _ _ (leads-rearranged laws ts n _ _ (after_these (js j) _ _ (moved_after w ws (ss j ++ es)))) (one_stood rest w)
      joined-by rest active (At p) (Named x) = one_stood rest (equated (name (name_of p)) (name x))
      joined-by rest active (Named x) (At q) =
          leads-through laws _ _ _ (one_stood rest (equated (name (name_of q)) (name x))) (leads-rearranged laws ts n _ _ (turn (name (name_of q)) (name x) (links ++ es)))
      joined-by rest active (Named x) (Named y) =
          let left = name (name_of (Left j)) in
          let right = name (name_of (Right j)) in
          let point = equated left right in
          let first = equated left (name x) in
          let second = equated right (name y) in
          leads-through laws _ _ _ (leads-rearranged laws ts n _ _ (kept point _ _ _ (itself _) (after_these (js (j + 1)) _ _ (after_these ws _ _ (exchange (first ∷ second ∷ []) (ss (j + 1)) es)))))
          (leads-through laws _ _ _ (leads-rearranged laws ts n _ _ (after_three point (js (j + 1)) ws (ss (j + 1)) (first ∷ second ∷ es)))
          (leads-through laws _ _ _ (rest (j + 1) (point ∷ first ∷ second ∷ es))
          (leads-through laws _ _ _ (leads-rearranged laws ts n _ _ (one_by_one _ _ _ (exchange links (point ∷ first ∷ second ∷ []) es)
          (one_by_one _ _ _ (swapped point first (second ∷ (links ++ es))) (kept first _ _ _ (itself _) (turn left right (second ∷ (links ++ es)))))))
          (leads-through laws _ _ _ (put_right laws (name_of (Left j)) (name x) right left (name x) ts (second ∷ (links ++ es)) n (rw (eq-eqb (name_of (Left j)) (name_of (Left j)) refl) refl) (λ few. put_alone (name_of (Left j)) (name x)))
          (leads-through laws _ _ _ (leads-rearranged laws ts n _ _ (one_by_one _ _ _ (swapped (equated right (name x)) second (links ++ es)) (kept second _ _ _ (itself _) (turn right (name x) (links ++ es)))))
          (put_right laws (name_of (Right j)) (name y) (name x) right (name y) ts (links ++ es) n (rw (eq-eqb (name_of (Right j)) (name_of (Right j)) refl) refl) (λ few. put_alone (name_of (Right j)) (name y))))))))

    pub links-joined : (j : ℕ) (ls : List Link) (es : List Pair)
        → Leads (parts ts (joint_equations name_of j (joints ls) ++ (wire_equations name_of (plain_wires ls) ++ (standing_equations (standings j ls) ++ es))) n)
        (parts ts (link_equations name_of ls ++ es) n)
    links-joined j [] es = leads-itself laws _ _ refl
    links-joined j (l ∷ ls) es = joined-by ls j es (λ i more. links-joined i ls more) l.active l.from l.to

    -- ---- names at ports are wires

    module _ (free : (m : ℕ) → name_of (Free m) ≡ m) where
      stood : (s : Standing) (es : List (ℕ × Wire)) (rest : List Pair) → stands s.name es ≤ 1 → AreOwn es
          → Leads (parts ts (wire_equations name_of (own_wires es) ++ (standing_equation s ∷ rest)) n) (parts ts (wire_equations name_of (own_wires (with_standing es s)) ++ rest) n)
      stood s [] rest low own = leads-itself laws _ _ (ap (λ (m : ℕ). parts ts (equated (name (name_of s.port)) (name m) ∷ rest) n) (sym (free s.name)))
      stood s (e ∷ es) rest low own = by (s.name == e.0) refl (λ less more. stood s es more less own.3)
        where
          ends_free : (is_bound e.1.to ≡ true) ⊎ (e.1.to ≡ Free e.0) → is_bound e.1.to ≡ false → e.1.to ≡ Free e.0
          ends_free (inl bound) is = absurd (true≢false (sym bound ∙ is))
          ends_free (inr ends) is = ends

          by : (b : Bool) → (s.name == e.0) ≡ b
              → (stands s.name es ≤ 1 → (more : List Pair)
              → Leads (parts ts (wire_equations name_of (own_wires es) ++ (standing_equation s ∷ more)) n) (parts ts (wire_equations name_of (own_wires (with_standing es s)) ++ more) n))
              → Leads (parts ts (wire_equations name_of (own_wires (e ∷ es)) ++ (standing_equation s ∷ rest)) n)
              (parts ts (wire_equations name_of (own_wires (cond b ((e.0, wire_of (Some e.1) s) ∷ es) (e ∷ with_standing es s))) ++ rest) n)
          by true is later =
              let ends = ends_free own.1 (at_first s.name e es is low) in
              let named : name_of e.1.to ≡ s.name = ap name_of ends ∙ free e.0 ∙ sym (eqb-true s.name e.0 is) in
              let from = name (name_of e.1.from) in
              let port = name (name_of s.port) in
              let x = name s.name in
              let ws = wire_equations name_of (own_wires es) in
              leads-through laws _ _ _ (leads-itself laws _ _ (ap (λ (m : ℕ). parts ts (equated from (name m) ∷ (ws ++ (standing_equation s ∷ rest))) n) named))
              (leads-through laws _ _ _ (leads-rearranged laws ts n _ _ (one_by_one _ _ _ (kept (equated from x) _ _ _ (itself _) (before (standing_equation s) ws rest))
              (one_by_one _ _ _ (swapped (equated from x) (standing_equation s) (ws ++ rest)) (turn port x (equated from x ∷ (ws ++ rest))))))
              (put_right laws s.name port from x port ts (ws ++ rest) n (rw (eq-eqb s.name s.name refl) refl) (λ less. put_alone s.name port)))
          by false is later =
              let less = at_rest s.name e es is low in
              let w = wire_equation name_of e.1 in
              let ws = wire_equations name_of (own_wires es) in
              let more = wire_equations name_of (own_wires (with_standing es s)) in
              leads-through laws _ _ _ (leads-rearranged laws ts n _ _ (one_by_one _ _ _ (moved_after w ws (standing_equation s ∷ rest)) (after_these ws _ _ (swapped w (standing_equation s) rest))))
              (leads-through laws _ _ _ (later less (w ∷ rest)) (leads-rearranged laws ts n _ _ (before w more rest)))

      pub all_stood : (ss : List Standing) (es : List (ℕ × Wire)) (rest : List Pair) → AreBound (standing_ports ss) → AreFew es ss → AreOwn es
          → Leads (parts ts (wire_equations name_of (own_wires es) ++ (standing_equations ss ++ rest)) n) (parts ts (wire_equations name_of (own_wires (fold with_standing es ss)) ++ rest) n)
      all_stood [] es rest bound le own = leads-itself laws _ _ refl
      all_stood (s ∷ ss) es rest bound le own =
          let low = first_low es s ss le in
          leads-through laws _ _ _ (stood s es (standing_equations ss ++ rest) low own)
          (all_stood ss (with_standing es s) rest bound.1 (next_few es s ss bound.0 le) (own_added s bound.0 es low own))
