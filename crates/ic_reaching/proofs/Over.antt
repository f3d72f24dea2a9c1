-- Lemmas: configurations that are one net are over the same symbols.
use Rattle.std.proofs.Common.{◌≡◌, List, [], ◌∷◌, ◌++◌, true, refl, sym, ap, ◌∙◌, arith, inl, inr}
use Rattle.std.proofs.lemmas.Bool.{and_parts}
use Rattle.std.specs.List.{list_all}
use Rattle.ic_term.specs.Configuration.{Configuration, names_in, occurrences}
use Rattle.ic_term.specs.Symbol.{Symbol, is_tree_over, are_trees_over, is_pair_over, is_over}
use Rattle.ic_settle.specs.Settling.{subst_all, subst_in, Binds}
use Rattle.ic_settle.specs.NameSteps.{NameStep, NameSteps, no_step, one_more}
use Rattle.ic_settle.specs.lemmas.SubstitutionLaws.{and_both, occurrences_some}
use Rattle.ic_settle.specs.lemmas.WholeLaws.{whole, names_of-whole, subst_all-whole, over-whole}
use Rattle.ic_round.specs.lemmas.OverSymbols.{over_replaced}
use Rattle.ic_round.specs.lemmas.SettledLemmas.{name_step-over}
use Rattle.ic_confluence.specs.lemmas.Over.{over_put_all, over_below_all, same_over}
use Rattle.ic_reaching.specs.OneNet.{raised, SameButNext, OneNet}

-- ---- a term with a term put in

-- ---- rearranged

-- ---- renamed

-- ---- the same net

-- ---- one net

over_all : (ss : List Symbol) (c : Configuration) → is_over ss c ≡ true → are_trees_over ss (whole c.interface c.equations) ≡ true
over_all ss c over = over-whole ss c.interface c.equations ∙ over

-- before a name step, where it leads to a configuration over the symbols
over_before : (ss : List Symbol) (c d : Configuration) → NameStep c d → is_over ss d ≡ true → is_over ss c ≡ true
over_before ss c d s over =
    let x = s.bound.name in
    let u = s.bound.term in
    let rest = s.before ++ s.after in
    let put : are_trees_over ss (subst_all x u (whole c.interface rest)) ≡ true =
    ap (are_trees_over ss) (subst_all-whole x u c.interface rest) ∙ over_all ss (subst_in x u (record c { equations = rest })) (ap (is_over ss) (sym s.result) ∙ over) in
    let some = occurrences_some x (names_in c.interface rest) s.outside in
    let named = ap (occurrences x) (names_of-whole c.interface rest) in
    let term = over_put_all ss x u (whole c.interface rest) put (omega (arith, some, named)) in
    let below = sym (over-whole ss c.interface rest) ∙ over_below_all ss x u (whole c.interface rest) put in
    let both = and_parts (list_all (is_tree_over ss) c.interface) (list_all (is_pair_over ss) rest) below in
    let equations = over_replaced ss s.before (s.equation ∷ []) s.after both.1 (and_both (binding term s.side) refl) in
    and_both both.0 (ap (list_all (is_pair_over ss)) s.place ∙ equations)
  where
    binding : is_tree_over ss s.bound.term ≡ true → Binds s.equation s.bound → is_pair_over ss s.equation ≡ true
    binding term (inl e) = ap (is_pair_over ss) e ∙ term
    binding term (inr e) = ap (is_pair_over ss) e ∙ and_both term refl

over_after : (ss : List Symbol) (c d : Configuration) → NameSteps c d → is_over ss c ≡ true → is_over ss d ≡ true
over_after ss c d (no_step x) over = over
over_after ss c d (one_more x y z steps step) over = name_step-over ss y z step (over_after ss x y steps over)

over_earlier : (ss : List Symbol) (c d : Configuration) → NameSteps c d → is_over ss d ≡ true → is_over ss c ≡ true
over_earlier ss c d (no_step x) over = over
over_earlier ss c d (one_more x y z steps step) over = over_earlier ss x y steps (over_before ss y z step over)

pub but_next_over : (ss : List Symbol) (c d : Configuration) → SameButNext c d → is_over ss c ≡ true → is_over ss d ≡ true
but_next_over ss c d s over = same_over ss (raised s.more c) (raised s.others d) s.same over

pub net_over : (ss : List Symbol) (c d : Configuration) → OneNet c d → is_over ss c ≡ true → is_over ss d ≡ true
net_over ss c d net over = over_earlier ss d net.end_too net.steps_too (but_next_over ss net.end net.end_too net.same (over_after ss c net.end net.steps over))
