use Rattle.std.proofs.Common.{ℕ, List, ◌∷◌, ◌++◌, [], length, ap, sym, subst, ◌∙◌, arith}
use Rattle.std.specs.List.{flat_map}
use Rattle.ic_term.specs.Configuration.{Configuration}
use Rattle.ic_flat.specs.Flat.{configuration_words}
use Rattle.ic_codec.specs.Numbers.{two_bytes}
use Rattle.ic_codec.specs.inner.Room.{Fits, Appended}
use Rattle.ic_codec.specs.inner.WordFronts.{word_bytes}
use Rattle.ic_codec.proofs.Sizes.{pairs_few}
use Rattle.ic_codec.proofs.Appending.{first_fits, rest_fits, both_appended}
use Rattle.ic_codec.proofs.FlatReading.{configuration-by_words}
use Rattle.ic_codec.proofs.flats.put_flat.Goals as goal
use Rattle.ic_codec.proofs.flats.put_flat.Goals.{After-put_byte}

abbrev after_byte : Configuration → List ℕ
after_byte n = two_bytes (length n.equations) ++ flat_map word_bytes (configuration_words n)

pub overflow_cast-equations_len : goal.overflow_cast-equations_len
overflow_cast-equations_len c =
    omega (arith, c.equations_len.ensures.equations, pairs_few c.args.flat.now.equations, c.equations_len.ensures.sound.nodes)

pub put_byte-requires : goal.put_byte-requires
put_byte-requires c =
    let n = c.args.flat.now in
    first_fits (length n.interface ∷ []) (after_byte n) _ (ap (λ b. b ∷ []) c.interface_len.ensures.terms) (subst (λ (bs : List ℕ). Fits c.args.out.now bs) (configuration-by_words n) c.requires)

-- what fits once the number of terms is there
fits_after_byte : (c : After-put_byte) → Fits c.put_byte.new.out (after_byte c.args.flat.now)
fits_after_byte c =
    let n = c.args.flat.now in
    rest_fits (length n.interface ∷ []) (after_byte n) _ (ap (λ b. b ∷ []) c.interface_len.ensures.terms) (subst (λ (bs : List ℕ). Fits c.args.out.now bs) (configuration-by_words n) c.requires) c.put_byte.ensures

pub put_two_bytes-requires : goal.put_two_bytes-requires
put_two_bytes-requires c =
    let n = c.args.flat.now in
    first_fits (two_bytes (length n.equations)) (flat_map word_bytes (configuration_words n)) _ (ap two_bytes c.equations_len.ensures.equations) (fits_after_byte (goal.at.put_two_bytes-requires c).After-put_byte)

pub put_words-requires : goal.put_words-requires
put_words-requires c =
    let n = c.args.flat.now in
    let after = fits_after_byte (goal.at.put_words-requires c).After-put_byte in
    let left = rest_fits (two_bytes (length n.equations)) (flat_map word_bytes (configuration_words n)) _ (ap two_bytes c.equations_len.ensures.equations) after c.put_two_bytes.ensures in
    subst (λ (ws : List ℕ). Fits c.put_two_bytes.new.out ws) (sym (ap (flat_map word_bytes) c.words.ensures.words)) left

pub returns : goal.returns
returns c =
    let n = c.args.flat.now in
    let terms = c.interface_len.ensures.terms in
    let equations = c.equations_len.ensures.equations in
    let words = c.words.ensures.words in
    let put = both_appended (c.interface_len.result ∷ []) (two_bytes c.equations_len.result ++ flat_map word_bytes c.words.result.now) c.put_byte.ensures
    (both_appended (two_bytes c.equations_len.result) (flat_map word_bytes c.words.result.now) c.put_two_bytes.ensures c.put_words.ensures) in
    subst (λ (bs : List ℕ). Appended c.args.out.now c.put_words.new.out bs)
    ((λ i. terms i ∷ (two_bytes (equations i) ++ flat_map word_bytes (words i))) ∙ sym (configuration-by_words n)) put
