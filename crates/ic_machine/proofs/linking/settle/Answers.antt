use Rattle.std.proofs.Common.{◌≡◌, List, [], ◌∷◌, ◌++◌, map, subst, sym, ◌∙◌}
use Rattle.std.proofs.lemmas.List.{append-nil, append_cancel_left}
use Rattle.std.proofs.lemmas.List.Sorted.{IsPermutation-middle, IsPermutation-refl, IsPermutation-sym}
use Rattle.ic_arena.specs.declared.word.Word.{Word}
use Rattle.ic_arena.specs.Word.{name_word}
use Rattle.ic_arena.specs.Piece.{Piece}
use Rattle.ic_arena.specs.Tables.{names_pieces}
use Rattle.ic_machine.specs.declared.equation.Equation.{Equation}
use Rattle.ic_machine.specs.Net.{equated_of}
use Rattle.ic_machine.specs.Steps.{Steps, no_step}
use Rattle.ic_machine.proofs.LinkSteps.{put_down}
use Rattle.ic_machine.proofs.Links.{on_left, on_neither, on_right}
use Rattle.ic_machine.proofs.linking.settle.Goals as goal

pub returns-then-equation-eq-NAME-clause-steps : goal.returns-then-equation-eq-NAME-clause-steps
returns-then-equation-eq-NAME-clause-steps g c = λ p rest.
    let l : Word = c.args.equation.left in
    let r : Word = c.args.equation.right in
    let ns : List Piece = names_pieces 0 c.args.names.now.entries in
    let others : List Piece = map equated_of c.args.pending.now.items ++ rest in
    let start : List Piece = equated_of c.args.equation ∷ (ns ++ others) in
    on_left p start l r ns others (names_pieces 0 c.put.new.self.entries ++ others) c.if-equation-eq-NAME.true
    (no_step start start (IsPermutation-refl start))
    (put_down p (name_word l.index) r ns (names_pieces 0 c.put.new.self.entries) others c.put.ensures.put)

pub returns-then-equation-eq-NAME-2-clause-steps : goal.returns-then-equation-eq-NAME-2-clause-steps
returns-then-equation-eq-NAME-2-clause-steps g c = λ p rest.
    let l : Word = c.args.equation.left in
    let r : Word = c.args.equation.right in
    let ns : List Piece = names_pieces 0 c.args.names.now.entries in
    let ms : List Piece = names_pieces 0 c.put-then-equation-eq-NAME-2.new.self.entries in
    let others : List Piece = map equated_of c.args.pending.now.items ++ rest in
    let start : List Piece = equated_of c.args.equation ∷ (ns ++ others) in
    on_right p start l r ns others (ms ++ others) c.if-equation-eq-NAME-2.true
    (no_step start start (IsPermutation-refl start))
    (put_down p (name_word r.index) l ns ms others c.put-then-equation-eq-NAME-2.ensures.put)

pub returns-else-equation-eq-NAME-2-clause-steps : goal.returns-else-equation-eq-NAME-2-clause-steps
returns-else-equation-eq-NAME-2-clause-steps g c = λ p rest.
    let ns : List Piece = names_pieces 0 c.args.names.now.entries in
    let start : List Piece = equated_of c.args.equation ∷ (ns ++ (map equated_of c.args.pending.now.items ++ rest)) in
    on_neither p start c.args.equation ns rest c.args.pending.now.items c.push_reserved.new.self.items
    (no_step start start (IsPermutation-refl start)) c.push_reserved.ensures.items

-- nothing was put after the others
none_more : (us more : List Equation) → us ≡ us ++ more → [] ≡ more
none_more us more is = append_cancel_left us [] more (append-nil us ∙ is)

pub returns-then-equation-eq-NAME-clause-bare : goal.returns-then-equation-eq-NAME-clause-bare
returns-then-equation-eq-NAME-clause-bare g c = λ p rest more is.
    let l : Word = c.args.equation.left in
    let r : Word = c.args.equation.right in
    let ns : List Piece = names_pieces 0 c.args.names.now.entries in
    let ms : List Piece = names_pieces 0 c.put.new.self.entries in
    let start : List Piece = equated_of c.args.equation ∷ (ns ++ rest) in
    subst (λ (m : List Equation). Steps p [] start (ms ++ (map equated_of m ++ rest)))
    (none_more c.args.pending.now.items more is)
    (on_left p start l r ns rest (ms ++ rest) c.if-equation-eq-NAME.true (no_step start start (IsPermutation-refl start))
    (put_down p (name_word l.index) r ns ms rest c.put.ensures.put))

pub returns-then-equation-eq-NAME-2-clause-bare : goal.returns-then-equation-eq-NAME-2-clause-bare
returns-then-equation-eq-NAME-2-clause-bare g c = λ p rest more is.
    let l : Word = c.args.equation.left in
    let r : Word = c.args.equation.right in
    let ns : List Piece = names_pieces 0 c.args.names.now.entries in
    let ms : List Piece = names_pieces 0 c.put-then-equation-eq-NAME-2.new.self.entries in
    let start : List Piece = equated_of c.args.equation ∷ (ns ++ rest) in
    subst (λ (m : List Equation). Steps p [] start (ms ++ (map equated_of m ++ rest)))
    (none_more c.args.pending.now.items more is)
    (on_right p start l r ns rest (ms ++ rest) c.if-equation-eq-NAME-2.true (no_step start start (IsPermutation-refl start))
    (put_down p (name_word r.index) l ns ms rest c.put-then-equation-eq-NAME-2.ensures.put))

pub returns-else-equation-eq-NAME-2-clause-bare : goal.returns-else-equation-eq-NAME-2-clause-bare
returns-else-equation-eq-NAME-2-clause-bare g c = λ p rest more is.
    let e : Equation = c.args.equation in
    let ns : List Piece = names_pieces 0 c.args.names.now.entries in
    let one : e ∷ [] ≡ more = append_cancel_left c.args.pending.now.items (e ∷ []) more (sym c.push_reserved.ensures.items ∙ is) in
    subst (λ (m : List Equation). Steps p [] (equated_of e ∷ (ns ++ rest)) (ns ++ (map equated_of m ++ rest))) one
    (no_step (equated_of e ∷ (ns ++ rest)) (ns ++ equated_of e ∷ rest)
    (IsPermutation-sym (ns ++ equated_of e ∷ rest) (equated_of e ∷ (ns ++ rest)) (IsPermutation-middle ns (equated_of e) rest)))
