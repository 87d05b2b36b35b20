use Rattle.std.proofs.Common.{◌+◌, ◌∙◌, ◌∷◌, ap, sym, arith, drop, get_or, ◌/◌, ◌%◌, ◌^◌, ◌-◌}
use Rattle.vp9_types.specs.Bits.{bits_of}
use Rattle.frame_headers.proofs.BitLemmas.{first_bit, byte_done, none_left}
use Rattle.frame_headers.proofs.bits.BitReader.bit.Goals as goal

pub returns-in_default : goal.returns-in_default
returns-in_default c =
    let gone = sym c.self.view_is ∙ none_left c.self.inside.rest.now c.self.inside.used c.in_default.len_below in
    record { read = (gone, gone) }

pub returns-then-self-eq7 : goal.returns-then-self-eq7
returns-then-self-eq7 c = record {
  read = (
    sym c.self.view_is ∙ first_bit c.self.inside.rest.now c.self.inside.used c.in-len1-up.len_at_least c.self.invariant.0
        ∙ ap (λ bs. get_or c.self.inside.rest.now 0 0 / 2 ^ (7 - c.self.inside.used) % 2 ∷ bs)
        (ap (λ n. drop (n + 1) (bits_of c.self.inside.rest.now)) c.if-self-eq7.true ∙ byte_done c.self.inside.rest.now c.in-len1-up.len_at_least),
    omega arith,
  );
}

pub returns-else-self-eq7 : goal.returns-else-self-eq7
returns-else-self-eq7 c = record {
  read = (
    sym c.self.view_is ∙ first_bit c.self.inside.rest.now c.self.inside.used c.in-len1-up.len_at_least c.self.invariant.0,
    omega arith,
  );
}
