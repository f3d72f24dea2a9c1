use Rattle.std.proofs.Common.{◌≡◌, [], ◌∷◌, ◌∙◌, ◌++◌, true, reverse, ap, sym, refl, subst}
use Rattle.std.specs.Vec.{with_item}
use Rattle.ic_arena.specs.declared.word.Word.{Word}
use Rattle.ic_readback.specs.declared.loose.Loose.{Loose}
use Rattle.ic_readback.specs.declared.token.Token.{Token}
use Rattle.ic_readback.specs.declared.token.Token.TheVariants.{Name}
use Rattle.ic_readback.specs.declared.writer.Writer.{Writer}
use Rattle.ic_readback.specs.inner.Writing.{IsOpen, IsOpenAt}
use Rattle.ic_readback.specs.inner.Mending.{parts_left, WroteOne}
use Rattle.ic_readback.proofs.Writers.{wrote_put, wrote_token, same_at, same_name, agent_name}
use Rattle.ic_readback.proofs.writer.Writer.write_token.Goals as goal
use Rattle.ic_readback.proofs.writer.Writer.write_token.Goals.{in-Name+in_default-find, in_default}

pub returns-in-Some : goal.returns-in-Some
returns-in-Some c =
    let old : Writer = c.args.self.now in
    let m : Loose = record c.index_mut.result.now { written = true } in
    let at : IsOpenAt c.in-Name.name c.in-Some.index old.loose.items = c.in-Some.ensures.there in
    let first : at.loose ≡ c.index.result.now = same_at old.loose.items c.in-Some.index c.in-Some.index at.loose c.index.result.now at.there refl c.index.ensures in
    let second : at.loose ≡ c.index_mut.result.now = same_at old.loose.items c.in-Some.index c.in-Some.index at.loose c.index_mut.result.now at.there refl c.index_mut.ensures.value in
    let new : Writer = record old { loose = with_item old.loose c.in-Some.index m; stack = c.extend_from_slice.new.self } in
    subst (λ (t : Token). WroteOne (t ∷ reverse old.stack.items) old new) (sym c.in-Name.is)
    (wrote_put old new c.in-Name.name c.in-Some.index m at (ap (λ (l : Loose). l.place) (sym second)) (ap (λ (l : Loose). l.reversed.items) (sym second)) refl refl refl refl refl
    (c.in_ok-extend_from_slice.ensures.items ∙ ap (λ l. old.stack.items ++ l) (c.deref.ensures.value ∙ ap (λ (l : Loose). l.reversed.items) (sym first))))

pub returns : goal.returns
returns c =
    let old : Writer = c.args.self.now in
    let shut : (w : Word) → c.args.token ≡ Name w → ¬ IsOpen w (parts_left old) =
    (λ w is there. elim c.match-token.branch [
      | in-Name+in_default-find v ↦ v.find.ensures.none v.in_default-find.is (subst (λ (x : Word). IsOpen x (parts_left old)) (same_name w v.in-Name.name (sym is ∙ v.in-Name.is)) there)
      | in_default v ↦ agent_name v.in_default.field-0 w (sym v.in_default.is ∙ is)
    ]) in
    let same : c.match-token.token ≡ c.args.token = elim c.match-token.branch [ in-Name+in_default-find v ↦ v.token-is ∙ sym v.in-Name.is | in_default v ↦ v.token-is ] in
    wrote_token old (record old { tokens = c.push.new.self }) c.args.token shut refl refl refl refl (c.in_ok-push.ensures.items ∙ ap (λ (t : Token). old.tokens.items ++ t ∷ []) same)
