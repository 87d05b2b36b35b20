-- What a compressed header makes of the probabilities of vectors.
use Rattle.std.proofs.Common.{◌≡◌, ◌∙◌, ◌*◌, ℕ, List, Bool, true, false, refl, subst}
use Rattle.vp9_types.specs.Each.{each}
use Rattle.compressed_header.specs.Updates.{update_mv_prob, mv_updates}
use Rattle.compressed_header.specs.VectorProbs.{joint_probs, component_probs, fraction_probs, high_precision_probs, precise_probs, mv_probs}
use Rattle.prob_contexts.specs.ProbLists.{VectorLists}
use Rattle.compressed_writer.specs.CodedUpdates.{AreVectorUpdates}
use Rattle.compressed_writer.proofs.Settles.{Settles, settles_bind}
use Rattle.compressed_writer.proofs.OddReads.{Odds, odds_same, odds_on, odds_at, odds_each, odds_range}

record AllOdds (old new : VectorLists) : Type 0 where
  joints : Odds old.joints new.joints
  signs : Odds old.signs new.signs
  classes : Odds old.classes new.classes
  class0 : Odds old.class0 new.class0
  bits : Odds old.bits new.bits
  class0_fractions : Odds old.class0_fractions new.class0_fractions
  fractions : Odds old.fractions new.fractions
  class0_high : Odds old.class0_high new.class0_high
  high : Odds old.high new.high

all_on : (a b c : VectorLists) → AllOdds a b → AllOdds b c → AllOdds a c
all_on a b c h g = record {
  joints = odds_on a.joints b.joints c.joints h.joints g.joints;
  signs = odds_on a.signs b.signs c.signs h.signs g.signs;
  classes = odds_on a.classes b.classes c.classes h.classes g.classes;
  class0 = odds_on a.class0 b.class0 c.class0 h.class0 g.class0;
  bits = odds_on a.bits b.bits c.bits h.bits g.bits;
  class0_fractions = odds_on a.class0_fractions b.class0_fractions c.class0_fractions h.class0_fractions g.class0_fractions;
  fractions = odds_on a.fractions b.fractions c.fractions h.fractions g.fractions;
  class0_high = odds_on a.class0_high b.class0_high c.class0_high h.class0_high g.class0_high;
  high = odds_on a.high b.high c.high h.high g.high;
}

-- a step that doesn't code the last bits
record Rough (old new : VectorLists) : Type 0 where
  odds : AllOdds old new
  class0_high : new.class0_high ≡ old.class0_high
  high : new.high ≡ old.high

rough_on : (a b c : VectorLists) → Rough a b → Rough b c → Rough a c
rough_on a b c h g = record {
  odds = all_on a b c h.odds g.odds;
  class0_high = g.class0_high ∙ h.class0_high;
  high = g.high ∙ h.high;
}

-- ---- each step, by what it updates

joints_new : (old : VectorLists) (joints : List ℕ)
    → Odds old.joints joints → Rough old (record old { joints = joints })
joints_new old joints h0 = record {
  odds = record {
    joints = h0;
    signs = odds_same old.signs;
    classes = odds_same old.classes;
    class0 = odds_same old.class0;
    bits = odds_same old.bits;
    class0_fractions = odds_same old.class0_fractions;
    fractions = odds_same old.fractions;
    class0_high = odds_same old.class0_high;
    high = odds_same old.high;
  };
  class0_high = refl;
  high = refl;
}

component_new : (old : VectorLists) (signs classes class0 bits : List ℕ)
    → Odds old.signs signs → Odds old.classes classes → Odds old.class0 class0 → Odds old.bits bits → Rough old (record old { signs = signs; classes = classes; class0 = class0; bits = bits })
component_new old signs classes class0 bits h0 h1 h2 h3 = record {
  odds = record {
    joints = odds_same old.joints;
    signs = h0;
    classes = h1;
    class0 = h2;
    bits = h3;
    class0_fractions = odds_same old.class0_fractions;
    fractions = odds_same old.fractions;
    class0_high = odds_same old.class0_high;
    high = odds_same old.high;
  };
  class0_high = refl;
  high = refl;
}

fractions_new : (old : VectorLists) (class0_fractions fractions : List ℕ)
    → Odds old.class0_fractions class0_fractions → Odds old.fractions fractions → Rough old (record old { class0_fractions = class0_fractions; fractions = fractions })
fractions_new old class0_fractions fractions h0 h1 = record {
  odds = record {
    joints = odds_same old.joints;
    signs = odds_same old.signs;
    classes = odds_same old.classes;
    class0 = odds_same old.class0;
    bits = odds_same old.bits;
    class0_fractions = h0;
    fractions = h1;
    class0_high = odds_same old.class0_high;
    high = odds_same old.high;
  };
  class0_high = refl;
  high = refl;
}

high_new : (old : VectorLists) (class0_high high : List ℕ)
    → Odds old.class0_high class0_high → Odds old.high high → AllOdds old (record old { class0_high = class0_high; high = high })
high_new old class0_high high h0 h1 = record {
  joints = odds_same old.joints;
  signs = odds_same old.signs;
  classes = odds_same old.classes;
  class0 = odds_same old.class0;
  bits = odds_same old.bits;
  class0_fractions = odds_same old.class0_fractions;
  fractions = odds_same old.fractions;
  class0_high = h0;
  high = h1;
}

joints_read : (old new : VectorLists) → Settles (joint_probs old) new → Rough old new
unfolding joint_probs
joints_read old new h =
    let a = settles_bind (each update_mv_prob old.joints) _ new h in
    subst (λ v. Rough old v) a.2 (joints_new old a.0 (odds_each old.joints a.0 a.1))

component_read : (i : ℕ) (old new : VectorLists) → Settles (component_probs i old) new → Rough old new
unfolding component_probs
component_read i old new h =
    let a = settles_bind (mv_updates i 1 old.signs) _ new h in
    let b = settles_bind (mv_updates (10 * i) 10 old.classes) _ new a.2 in
    let c = settles_bind (mv_updates i 1 old.class0) _ new b.2 in
    let d = settles_bind (mv_updates (10 * i) 10 old.bits) _ new c.2 in
    subst (λ v. Rough old v) {x = record old { signs = a.0; classes = b.0; class0 = c.0; bits = d.0 }} d.2
    (component_new old a.0 b.0 c.0 d.0 (odds_range i 1 old.signs a.0 a.1) (odds_range (10 * i) 10 old.classes b.0 b.1)
    (odds_range i 1 old.class0 c.0 c.1) (odds_range (10 * i) 10 old.bits d.0 d.1))

fractions_read : (i : ℕ) (old new : VectorLists) → Settles (fraction_probs i old) new → Rough old new
unfolding fraction_probs
fractions_read i old new h =
    let a = settles_bind (mv_updates (6 * i) 6 old.class0_fractions) _ new h in
    let b = settles_bind (mv_updates (3 * i) 3 old.fractions) _ new a.2 in
    subst (λ v. Rough old v) b.2
    (fractions_new old a.0 b.0 (odds_range (6 * i) 6 old.class0_fractions a.0 a.1) (odds_range (3 * i) 3 old.fractions b.0 b.1))

high_read : (i : ℕ) (old new : VectorLists) → Settles (high_precision_probs i old) new → AllOdds old new
unfolding high_precision_probs
high_read i old new h =
    let a = settles_bind (mv_updates i 1 old.class0_high) _ new h in
    let b = settles_bind (mv_updates i 1 old.high) _ new a.2 in
    subst (λ v. AllOdds old v) b.2 (high_new old a.0 b.0 (odds_range i 1 old.class0_high a.0 a.1) (odds_range i 1 old.high b.0 b.1))

updates_of : (precise : Bool) (old new : VectorLists) → AllOdds old new → (precise ≡ false → new.class0_high ≡ old.class0_high)
    → (precise ≡ false → new.high ≡ old.high) → AreVectorUpdates precise old new
updates_of precise old new h class0_high high = record {
  odd = record {
    joints = odds_at old.joints new.joints h.joints;
    signs = odds_at old.signs new.signs h.signs;
    classes = odds_at old.classes new.classes h.classes;
    class0 = odds_at old.class0 new.class0 h.class0;
    bits = odds_at old.bits new.bits h.bits;
    class0_fractions = odds_at old.class0_fractions new.class0_fractions h.class0_fractions;
    fractions = odds_at old.fractions new.fractions h.fractions;
    class0_high = odds_at old.class0_high new.class0_high h.class0_high;
    high = odds_at old.high new.high h.high;
  };
  class0_high = class0_high;
  high = high;
}

precise_read : (precise : Bool) (old mid new : VectorLists) → Rough old mid → Settles (precise_probs precise mid) new → AreVectorUpdates precise old new
unfolding precise_probs
precise_read true old mid new h g =
    let a = settles_bind (high_precision_probs 0 mid) (high_precision_probs 1) new g in
    updates_of true old new (all_on old mid new h.odds (all_on mid a.0 new (high_read 0 mid a.0 a.1) (high_read 1 a.0 new a.2)))
    (λ coded. let f : ⊥ = cc in absurd f) (λ coded. let f : ⊥ = cc in absurd f)
precise_read false old mid new h g =
    subst (λ v. AreVectorUpdates false old v) g (updates_of false old mid h.odds (λ _. h.class0_high) (λ _. h.high))

pub vectors_read : (precise : Bool) (old new : VectorLists) → Settles (mv_probs precise old) new → AreVectorUpdates precise old new
unfolding mv_probs
vectors_read precise old new h =
    let a = settles_bind (joint_probs old) _ new h in
    let b = settles_bind (component_probs 0 a.0) _ new a.2 in
    let c = settles_bind (component_probs 1 b.0) _ new b.2 in
    let d = settles_bind (fraction_probs 0 c.0) _ new c.2 in
    let e = settles_bind (fraction_probs 1 d.0) _ new d.2 in
    precise_read precise old e.0 new
    (rough_on old a.0 e.0 (joints_read old a.0 a.1)
    (rough_on a.0 b.0 e.0 (component_read 0 a.0 b.0 b.1)
    (rough_on b.0 c.0 e.0 (component_read 1 b.0 c.0 c.1)
    (rough_on c.0 d.0 e.0 (fractions_read 0 c.0 d.0 d.1) (fractions_read 1 d.0 e.0 e.1)))))
    e.2
