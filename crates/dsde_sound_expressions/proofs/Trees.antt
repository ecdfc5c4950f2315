-- Every expression in which nothing is wrong stands over the slots of what it sees.
use Rattle.std.proofs.Common.{◌≡◌, Bool, true, ◌&&◌, List, map, Some, None, refl, sym, ◌∙◌, ap, subst}
use Rattle.std.specs.List.{list_all}
use Rattle.dsde_language.specs.given.syntax.expr_Expr.{Expr}
use Rattle.dsde_language.specs.given.syntax.expr_Suffix.{Suffix}
use Rattle.dsde_language.specs.given.syntax.expr_ExprArm.{ExprArm}
use Rattle.dsde_language.specs.given.syntax.expr_FieldSet.{FieldSet}
use Rattle.dsde_language.specs.given.syntax.expr_SignTail.{SignTail}
use Rattle.dsde_language.specs.given.syntax.expr_Tail.{Tail}
use Rattle.dsde_language.specs.given.syntax.expr_Expr_TheOpen.{Expr-F, Suffix-F, ExprArm-F, FieldSet-F, SignTail-F, Tail-F}
use Rattle.dsde_language.specs.given.syntax.expr_Expr_TheViews.{roll-Expr, roll-Suffix, roll-ExprArm, roll-FieldSet, roll-SignTail, roll-Tail}
use Rattle.dsde_language.specs.given.syntax.expr_Expr_TheFolds.{fold-Suffix, fold-ExprArm, fold-FieldSet, fold-SignTail, fold-Tail, map-Expr, map-Suffix, map-ExprArm, map-FieldSet, map-SignTail, map-Tail, fold-roll-Expr, fold-roll-Suffix, fold-roll-ExprArm, fold-roll-FieldSet, fold-roll-SignTail, fold-roll-Tail, ind-Expr}
use Rattle.dsde_language.specs.given.syntax.token_Sign.{Sign}
use Rattle.dsde_language.specs.given.syntax.Levels.{is_sum_sign, is_mul_sign, is_comparison, is_builtin, has_first}
use Rattle.dsde_language.specs.given.values.types_Types.{Types}
use Rattle.dsde_language.specs.declared.known.Around.{Around}
use Rattle.dsde_language.specs.declared.known.Known.{Known}
use Rattle.dsde_language.specs.Judge as rules
use Rattle.dsde_language.specs.Judge.{Judge, Guarded, SetJudge, judge, judge_step, chain}
use Rattle.dsde_language.specs.declared.operator.Binary.{Binary}
use Rattle.dsde_language.specs.declared.operator.Binary.TheVariants as binary
use Rattle.dsde_language.specs.Expressions as nodes
use Rattle.dsde_language.specs.DeclaredOperators.{nested}
use Rattle.dsde_language.specs.Expressions.{Resolved, resolve, resolve_step}
use Rattle.dsde_language.specs.Meaning as meaning
use Rattle.dsde_language.specs.Meaning.{Function, Mean, ArmMean, mean, mean_step}
use Rattle.dsde_language.specs.MeaningTables.{Coded}
use Rattle.dsde_language.specs.Proper as proper
use Rattle.dsde_language.specs.Proper.{Signed, is_proper, all_so, is_plain}
use Rattle.dsde_language.specs.Scopes.{Within, Serve, Calls}
use Rattle.dsde_sound_expressions.specs.lemmas.Truths.{and-left, and-right}
use Rattle.dsde_sound_expressions.proofs.At.{Ground, ground}
use Rattle.dsde_sound_expressions.proofs.Parts.{Agreed}
use Rattle.dsde_sound_expressions.proofs.ProperParts.{AreOperators, Passed, passed, word-map, three, first-kept, sum-operator, mul-operator}
use Rattle.dsde_sound_expressions.proofs.Simple.{or-else-agreed, not-agreed, neg-agreed, compare-agreed, number-agreed, truth-agreed, elapsed-agreed, name-agreed}
use Rattle.dsde_sound_expressions.proofs.Chains.{LinkAgreed, chain-agreed, or-agreed, and-agreed, sign-agreed, index-agreed, unwrap-agreed, field-agreed}
use Rattle.dsde_sound_expressions.proofs.Lists.{list-agreed, call-agreed, new-agreed, none-agreed, empty-agreed, variant-agreed}
use Rattle.dsde_sound_expressions.proofs.Builtins.{builtin-agreed}
use Rattle.dsde_sound_expressions.proofs.Arms.{ArmAgreed, arm-agreed, if-agreed}
use Rattle.dsde_sound_expressions.proofs.Eachs.{no-cond, one-cond, each-agreed}

module _ (types : Types) (coded : Coded) (around : Around) (whole : Known) (functions : List Function)
    (within : Within types around.known whole) (serve : Serve types around.known functions) (calls : Calls types coded around.known whole functions) where
  abbrev g : Ground
  g = ground types coded around

  abbrev has : Bool
  has = around.has_elapsed

  abbrev MOn : Type 0
  MOn = meaning.On

  abbrev ROn : Type 0
  ROn = nodes.Link

  abbrev JOn : Type 0
  JOn = rules.Link

  -- what is judged of the parts of a tree
  abbrev J : Expr → Judge
  J = judge around

  abbrev JS : Suffix → JOn
  JS = fold-Suffix Judge JOn Guarded SetJudge JOn JOn (judge_step around) (rules.suffix_step around) rules.arm_step rules.set_step (rules.sign_tail_step around) rules.tail_step

  abbrev JA : ExprArm → Guarded
  JA = fold-ExprArm Judge JOn Guarded SetJudge JOn JOn (judge_step around) (rules.suffix_step around) rules.arm_step rules.set_step (rules.sign_tail_step around) rules.tail_step

  abbrev JF : FieldSet → SetJudge
  JF = fold-FieldSet Judge JOn Guarded SetJudge JOn JOn (judge_step around) (rules.suffix_step around) rules.arm_step rules.set_step (rules.sign_tail_step around) rules.tail_step

  abbrev JG : SignTail → JOn
  JG = fold-SignTail Judge JOn Guarded SetJudge JOn JOn (judge_step around) (rules.suffix_step around) rules.arm_step rules.set_step (rules.sign_tail_step around) rules.tail_step

  abbrev JT : Tail → JOn
  JT = fold-Tail Judge JOn Guarded SetJudge JOn JOn (judge_step around) (rules.suffix_step around) rules.arm_step rules.set_step (rules.sign_tail_step around) rules.tail_step

  -- what they are resolved to
  abbrev R : Expr → Resolved
  R = resolve whole

  abbrev RS : Suffix → ROn
  RS = fold-Suffix Resolved ROn nodes.Arm Resolved ROn (Binary → ROn) (resolve_step whole) (nodes.suffix_step whole) nodes.arm_step nodes.set_step nodes.sign_tail_step nodes.tail_of

  abbrev RA : ExprArm → nodes.Arm
  RA = fold-ExprArm Resolved ROn nodes.Arm Resolved ROn (Binary → ROn) (resolve_step whole) (nodes.suffix_step whole) nodes.arm_step nodes.set_step nodes.sign_tail_step nodes.tail_of

  abbrev RF : FieldSet → Resolved
  RF = fold-FieldSet Resolved ROn nodes.Arm Resolved ROn (Binary → ROn) (resolve_step whole) (nodes.suffix_step whole) nodes.arm_step nodes.set_step nodes.sign_tail_step nodes.tail_of

  abbrev RG : SignTail → ROn
  RG = fold-SignTail Resolved ROn nodes.Arm Resolved ROn (Binary → ROn) (resolve_step whole) (nodes.suffix_step whole) nodes.arm_step nodes.set_step nodes.sign_tail_step nodes.tail_of

  abbrev RT : Tail → Binary → ROn
  RT = fold-Tail Resolved ROn nodes.Arm Resolved ROn (Binary → ROn) (resolve_step whole) (nodes.suffix_step whole) nodes.arm_step nodes.set_step nodes.sign_tail_step nodes.tail_of

  -- what they mean
  abbrev M : Expr → Mean
  M = mean whole functions

  abbrev MS : Suffix → MOn
  MS = fold-Suffix Mean MOn ArmMean Mean MOn (Binary → MOn) (mean_step whole functions) (meaning.suffix_step whole) meaning.arm_step meaning.set_step meaning.sign_tail_step meaning.tail_step

  abbrev MA : ExprArm → ArmMean
  MA = fold-ExprArm Mean MOn ArmMean Mean MOn (Binary → MOn) (mean_step whole functions) (meaning.suffix_step whole) meaning.arm_step meaning.set_step meaning.sign_tail_step meaning.tail_step

  abbrev MF : FieldSet → Mean
  MF = fold-FieldSet Mean MOn ArmMean Mean MOn (Binary → MOn) (mean_step whole functions) (meaning.suffix_step whole) meaning.arm_step meaning.set_step meaning.sign_tail_step meaning.tail_step

  abbrev MG : SignTail → MOn
  MG = fold-SignTail Mean MOn ArmMean Mean MOn (Binary → MOn) (mean_step whole functions) (meaning.suffix_step whole) meaning.arm_step meaning.set_step meaning.sign_tail_step meaning.tail_step

  abbrev MT : Tail → Binary → MOn
  MT = fold-Tail Mean MOn ArmMean Mean MOn (Binary → MOn) (mean_step whole functions) (meaning.suffix_step whole) meaning.arm_step meaning.set_step meaning.sign_tail_step meaning.tail_step

  -- whether they are proper
  abbrev P : Expr → Bool
  P = is_proper

  abbrev PS : Suffix → Bool
  PS = fold-Suffix Bool Bool Bool Bool Signed Bool proper.proper_step proper.suffix_step proper.arm_step proper.set_step proper.sign_tail_step proper.tail_step

  abbrev PA : ExprArm → Bool
  PA = fold-ExprArm Bool Bool Bool Bool Signed Bool proper.proper_step proper.suffix_step proper.arm_step proper.set_step proper.sign_tail_step proper.tail_step

  abbrev PF : FieldSet → Bool
  PF = fold-FieldSet Bool Bool Bool Bool Signed Bool proper.proper_step proper.suffix_step proper.arm_step proper.set_step proper.sign_tail_step proper.tail_step

  abbrev PG : SignTail → Signed
  PG = fold-SignTail Bool Bool Bool Bool Signed Bool proper.proper_step proper.suffix_step proper.arm_step proper.set_step proper.sign_tail_step proper.tail_step

  abbrev PT : Tail → Bool
  PT = fold-Tail Bool Bool Bool Bool Signed Bool proper.proper_step proper.suffix_step proper.arm_step proper.set_step proper.sign_tail_step proper.tail_step

  abbrev Good : Expr → Type 0
  Good e = Agreed g has (J e) (R e) (M e)

  abbrev GoodSuffix : Suffix → Type 0
  GoodSuffix s = LinkAgreed g has (JS s) (RS s) (MS s)

  abbrev GoodArm : ExprArm → Type 0
  GoodArm a = ArmAgreed g has (JA a) (RA a) (MA a)

  abbrev GoodSet : FieldSet → Type 0
  GoodSet f = Agreed g has (JF f).value (RF f) (MF f)

  abbrev GoodSign : SignTail → Type 0
  GoodSign s = LinkAgreed g has (JG s) (RG s) (MG s)

  -- a link of a chain of either word
  abbrev Words : JOn → (Binary → ROn) → (Binary → MOn) → Type 0
  Words j r m = LinkAgreed g has j (r binary.Or) (m binary.Or) × LinkAgreed g has j (r binary.And) (m binary.And)

  abbrev SetGood : SetJudge → Resolved → Mean → Type 0
  SetGood j r m = Agreed g has j.value r m

  -- what is claimed of each, where it is proper
  abbrev Claim : Expr → Type 0
  Claim e = P e ≡ true → Agreed g has (J e) (R e) (M e)

  abbrev SuffixClaim : Suffix → Type 0
  SuffixClaim s = PS s ≡ true → LinkAgreed g has (JS s) (RS s) (MS s)

  abbrev ArmClaim : ExprArm → Type 0
  ArmClaim a = PA a ≡ true → ArmAgreed g has (JA a) (RA a) (MA a)

  abbrev SetClaim : FieldSet → Type 0
  SetClaim f = PF f ≡ true → Agreed g has (JF f).value (RF f) (MF f)

  abbrev SignClaim : SignTail → Type 0
  SignClaim s = (is_sign : Sign → Bool) → AreOperators is_sign → PG s is_sign ≡ true → LinkAgreed g has (JG s) (RG s) (MG s)

  abbrev TailClaim : Tail → Type 0
  TailClaim t = PT t ≡ true → Words (JT t) (RT t) (MT t)

  expr-roll : (x : Expr-F Expr Suffix ExprArm FieldSet SignTail Tail)
      → (proper.proper_step (map-Expr Expr Suffix ExprArm FieldSet SignTail Tail Bool Bool Bool Bool Signed Bool P PS PA PF PG PT x) ≡ true
      → Agreed g has ((judge_step around) (map-Expr Expr Suffix ExprArm FieldSet SignTail Tail Judge JOn Guarded SetJudge JOn JOn J JS JA JF JG JT x)) ((resolve_step whole) (map-Expr Expr Suffix ExprArm FieldSet SignTail Tail Resolved ROn nodes.Arm Resolved ROn (Binary → ROn) R RS RA RF RG RT x)) ((mean_step whole functions) (map-Expr Expr Suffix ExprArm FieldSet SignTail Tail Mean MOn ArmMean Mean MOn (Binary → MOn) M MS MA MF MG MT x)))
      → Claim (roll-Expr x)
  expr-roll x own h = three (Agreed g has) _ _ _ _ _ _
      (fold-roll-Expr Judge JOn Guarded SetJudge JOn JOn (judge_step around) (rules.suffix_step around) rules.arm_step rules.set_step (rules.sign_tail_step around) rules.tail_step x)
      (fold-roll-Expr Resolved ROn nodes.Arm Resolved ROn (Binary → ROn) (resolve_step whole) (nodes.suffix_step whole) nodes.arm_step nodes.set_step nodes.sign_tail_step nodes.tail_of x)
      (fold-roll-Expr Mean MOn ArmMean Mean MOn (Binary → MOn) (mean_step whole functions) (meaning.suffix_step whole) meaning.arm_step meaning.set_step meaning.sign_tail_step meaning.tail_step x)
      (own (sym (fold-roll-Expr Bool Bool Bool Bool Signed Bool proper.proper_step proper.suffix_step proper.arm_step proper.set_step proper.sign_tail_step proper.tail_step x) ∙ h))

  suffix-roll : (x : Suffix-F Expr Suffix ExprArm FieldSet SignTail Tail)
      → (proper.suffix_step (map-Suffix Expr Suffix ExprArm FieldSet SignTail Tail Bool Bool Bool Bool Signed Bool P PS PA PF PG PT x) ≡ true
      → LinkAgreed g has ((rules.suffix_step around) (map-Suffix Expr Suffix ExprArm FieldSet SignTail Tail Judge JOn Guarded SetJudge JOn JOn J JS JA JF JG JT x)) ((nodes.suffix_step whole) (map-Suffix Expr Suffix ExprArm FieldSet SignTail Tail Resolved ROn nodes.Arm Resolved ROn (Binary → ROn) R RS RA RF RG RT x)) ((meaning.suffix_step whole) (map-Suffix Expr Suffix ExprArm FieldSet SignTail Tail Mean MOn ArmMean Mean MOn (Binary → MOn) M MS MA MF MG MT x)))
      → SuffixClaim (roll-Suffix x)
  suffix-roll x own h = three (LinkAgreed g has) _ _ _ _ _ _
      (fold-roll-Suffix Judge JOn Guarded SetJudge JOn JOn (judge_step around) (rules.suffix_step around) rules.arm_step rules.set_step (rules.sign_tail_step around) rules.tail_step x)
      (fold-roll-Suffix Resolved ROn nodes.Arm Resolved ROn (Binary → ROn) (resolve_step whole) (nodes.suffix_step whole) nodes.arm_step nodes.set_step nodes.sign_tail_step nodes.tail_of x)
      (fold-roll-Suffix Mean MOn ArmMean Mean MOn (Binary → MOn) (mean_step whole functions) (meaning.suffix_step whole) meaning.arm_step meaning.set_step meaning.sign_tail_step meaning.tail_step x)
      (own (sym (fold-roll-Suffix Bool Bool Bool Bool Signed Bool proper.proper_step proper.suffix_step proper.arm_step proper.set_step proper.sign_tail_step proper.tail_step x) ∙ h))

  arm-roll : (x : ExprArm-F Expr Suffix ExprArm FieldSet SignTail Tail)
      → (proper.arm_step (map-ExprArm Expr Suffix ExprArm FieldSet SignTail Tail Bool Bool Bool Bool Signed Bool P PS PA PF PG PT x) ≡ true
      → ArmAgreed g has (rules.arm_step (map-ExprArm Expr Suffix ExprArm FieldSet SignTail Tail Judge JOn Guarded SetJudge JOn JOn J JS JA JF JG JT x)) (nodes.arm_step (map-ExprArm Expr Suffix ExprArm FieldSet SignTail Tail Resolved ROn nodes.Arm Resolved ROn (Binary → ROn) R RS RA RF RG RT x)) (meaning.arm_step (map-ExprArm Expr Suffix ExprArm FieldSet SignTail Tail Mean MOn ArmMean Mean MOn (Binary → MOn) M MS MA MF MG MT x)))
      → ArmClaim (roll-ExprArm x)
  arm-roll x own h = three (ArmAgreed g has) _ _ _ _ _ _
      (fold-roll-ExprArm Judge JOn Guarded SetJudge JOn JOn (judge_step around) (rules.suffix_step around) rules.arm_step rules.set_step (rules.sign_tail_step around) rules.tail_step x)
      (fold-roll-ExprArm Resolved ROn nodes.Arm Resolved ROn (Binary → ROn) (resolve_step whole) (nodes.suffix_step whole) nodes.arm_step nodes.set_step nodes.sign_tail_step nodes.tail_of x)
      (fold-roll-ExprArm Mean MOn ArmMean Mean MOn (Binary → MOn) (mean_step whole functions) (meaning.suffix_step whole) meaning.arm_step meaning.set_step meaning.sign_tail_step meaning.tail_step x)
      (own (sym (fold-roll-ExprArm Bool Bool Bool Bool Signed Bool proper.proper_step proper.suffix_step proper.arm_step proper.set_step proper.sign_tail_step proper.tail_step x) ∙ h))

  set-roll : (x : FieldSet-F Expr Suffix ExprArm FieldSet SignTail Tail)
      → (proper.set_step (map-FieldSet Expr Suffix ExprArm FieldSet SignTail Tail Bool Bool Bool Bool Signed Bool P PS PA PF PG PT x) ≡ true
      → SetGood (rules.set_step (map-FieldSet Expr Suffix ExprArm FieldSet SignTail Tail Judge JOn Guarded SetJudge JOn JOn J JS JA JF JG JT x)) (nodes.set_step (map-FieldSet Expr Suffix ExprArm FieldSet SignTail Tail Resolved ROn nodes.Arm Resolved ROn (Binary → ROn) R RS RA RF RG RT x)) (meaning.set_step (map-FieldSet Expr Suffix ExprArm FieldSet SignTail Tail Mean MOn ArmMean Mean MOn (Binary → MOn) M MS MA MF MG MT x)))
      → SetClaim (roll-FieldSet x)
  set-roll x own h = three SetGood _ _ _ _ _ _
      (fold-roll-FieldSet Judge JOn Guarded SetJudge JOn JOn (judge_step around) (rules.suffix_step around) rules.arm_step rules.set_step (rules.sign_tail_step around) rules.tail_step x)
      (fold-roll-FieldSet Resolved ROn nodes.Arm Resolved ROn (Binary → ROn) (resolve_step whole) (nodes.suffix_step whole) nodes.arm_step nodes.set_step nodes.sign_tail_step nodes.tail_of x)
      (fold-roll-FieldSet Mean MOn ArmMean Mean MOn (Binary → MOn) (mean_step whole functions) (meaning.suffix_step whole) meaning.arm_step meaning.set_step meaning.sign_tail_step meaning.tail_step x)
      (own (sym (fold-roll-FieldSet Bool Bool Bool Bool Signed Bool proper.proper_step proper.suffix_step proper.arm_step proper.set_step proper.sign_tail_step proper.tail_step x) ∙ h))

  sign-roll : (x : SignTail-F Expr Suffix ExprArm FieldSet SignTail Tail)
      → ((is_sign : Sign → Bool) → AreOperators is_sign → proper.sign_tail_step (map-SignTail Expr Suffix ExprArm FieldSet SignTail Tail Bool Bool Bool Bool Signed Bool P PS PA PF PG PT x) is_sign ≡ true
      → LinkAgreed g has ((rules.sign_tail_step around) (map-SignTail Expr Suffix ExprArm FieldSet SignTail Tail Judge JOn Guarded SetJudge JOn JOn J JS JA JF JG JT x)) (nodes.sign_tail_step (map-SignTail Expr Suffix ExprArm FieldSet SignTail Tail Resolved ROn nodes.Arm Resolved ROn (Binary → ROn) R RS RA RF RG RT x)) (meaning.sign_tail_step (map-SignTail Expr Suffix ExprArm FieldSet SignTail Tail Mean MOn ArmMean Mean MOn (Binary → MOn) M MS MA MF MG MT x)))
      → SignClaim (roll-SignTail x)
  sign-roll x own is_sign operators h = three (LinkAgreed g has) _ _ _ _ _ _
      (fold-roll-SignTail Judge JOn Guarded SetJudge JOn JOn (judge_step around) (rules.suffix_step around) rules.arm_step rules.set_step (rules.sign_tail_step around) rules.tail_step x)
      (fold-roll-SignTail Resolved ROn nodes.Arm Resolved ROn (Binary → ROn) (resolve_step whole) (nodes.suffix_step whole) nodes.arm_step nodes.set_step nodes.sign_tail_step nodes.tail_of x)
      (fold-roll-SignTail Mean MOn ArmMean Mean MOn (Binary → MOn) (mean_step whole functions) (meaning.suffix_step whole) meaning.arm_step meaning.set_step meaning.sign_tail_step meaning.tail_step x)
      (own is_sign operators (sym (ap (λ (s : Signed). s is_sign) (fold-roll-SignTail Bool Bool Bool Bool Signed Bool proper.proper_step proper.suffix_step proper.arm_step proper.set_step proper.sign_tail_step proper.tail_step x)) ∙ h))

  tail-roll : (x : Tail-F Expr Suffix ExprArm FieldSet SignTail Tail)
      → (proper.tail_step (map-Tail Expr Suffix ExprArm FieldSet SignTail Tail Bool Bool Bool Bool Signed Bool P PS PA PF PG PT x) ≡ true
      → Words (rules.tail_step (map-Tail Expr Suffix ExprArm FieldSet SignTail Tail Judge JOn Guarded SetJudge JOn JOn J JS JA JF JG JT x)) (nodes.tail_of (map-Tail Expr Suffix ExprArm FieldSet SignTail Tail Resolved ROn nodes.Arm Resolved ROn (Binary → ROn) R RS RA RF RG RT x)) (meaning.tail_step (map-Tail Expr Suffix ExprArm FieldSet SignTail Tail Mean MOn ArmMean Mean MOn (Binary → MOn) M MS MA MF MG MT x)))
      → TailClaim (roll-Tail x)
  tail-roll x own h = three Words _ _ _ _ _ _
      (fold-roll-Tail Judge JOn Guarded SetJudge JOn JOn (judge_step around) (rules.suffix_step around) rules.arm_step rules.set_step (rules.sign_tail_step around) rules.tail_step x)
      (fold-roll-Tail Resolved ROn nodes.Arm Resolved ROn (Binary → ROn) (resolve_step whole) (nodes.suffix_step whole) nodes.arm_step nodes.set_step nodes.sign_tail_step nodes.tail_of x)
      (fold-roll-Tail Mean MOn ArmMean Mean MOn (Binary → MOn) (mean_step whole functions) (meaning.suffix_step whole) meaning.arm_step meaning.set_step meaning.sign_tail_step meaning.tail_step x)
      (own (sym (fold-roll-Tail Bool Bool Bool Bool Signed Bool proper.proper_step proper.suffix_step proper.arm_step proper.set_step proper.sign_tail_step proper.tail_step x) ∙ h))

  abbrev E : Type 0
  E = (e : Expr) × Claim e

  abbrev S : Type 0
  S = (s : Suffix) × SuffixClaim s

  abbrev A : Type 0
  A = (a : ExprArm) × ArmClaim a

  abbrev F : Type 0
  F = (f : FieldSet) × SetClaim f

  abbrev G : Type 0
  G = (s : SignTail) × SignClaim s

  abbrev T : Type 0
  T = (t : Tail) × TailClaim t

  -- a part that is proper, with what is said of it
  abbrev GoodTail : Tail → Type 0
  GoodTail t = Words (JT t) (RT t) (MT t)

  abbrev DE : Type 0
  DE = (e : Expr) × Good e

  abbrev DT : Type 0
  DT = (t : Tail) × GoodTail t

  args-passed : (es : List E) → all_so (map P (map (λ e. e.0) es)) ≡ true → Passed (λ (e : E). e.0) Good es
  args-passed es h = passed (λ (e : E). e.0) P (λ own. own) Good (λ e k. e.1 k) es h

  -- the links of a chain of one word
  or-links : (ts : List Tail) (d : List DT) → map (λ (t : DT). t.0) d ≡ ts → (e : Expr) → Good e
      → Agreed g has (chain (J e) (map JT ts)) (nested (R e) (nodes.words_of binary.Or (map RT ts))) (nested (M e) (meaning.words_of binary.Or (map MT ts)))
  or-links ts d is e p =
      three (Agreed g has) _ _ _ _ _ _ refl
      (ap (λ (links : List ROn). nested (R e) links) (word-map RT binary.Or ts))
      (ap (λ (links : List MOn). nested (M e) links) (word-map MT binary.Or ts))
      (subst (λ (xs : List Tail). Agreed g has (chain (J e) (map JT xs)) (nested (R e) (map (λ t. RT t binary.Or) xs)) (nested (M e) (map (λ t. MT t binary.Or) xs))) is
      (chain-agreed g has (λ (t : DT). t.0) JT (λ (t : Tail). RT t binary.Or) (λ (t : Tail). MT t binary.Or) (λ t. t.1.0) d (J e) (R e) (M e) p))

  and-links : (ts : List Tail) (d : List DT) → map (λ (t : DT). t.0) d ≡ ts → (e : Expr) → Good e
      → Agreed g has (chain (J e) (map JT ts)) (nested (R e) (nodes.words_of binary.And (map RT ts))) (nested (M e) (meaning.words_of binary.And (map MT ts)))
  and-links ts d is e p =
      three (Agreed g has) _ _ _ _ _ _ refl
      (ap (λ (links : List ROn). nested (R e) links) (word-map RT binary.And ts))
      (ap (λ (links : List MOn). nested (M e) links) (word-map MT binary.And ts))
      (subst (λ (xs : List Tail). Agreed g has (chain (J e) (map JT xs)) (nested (R e) (map (λ t. RT t binary.And) xs)) (nested (M e) (map (λ t. MT t binary.And) xs))) is
      (chain-agreed g has (λ (t : DT). t.0) JT (λ (t : Tail). RT t binary.And) (λ (t : Tail). MT t binary.And) (λ t. t.1.1) d (J e) (R e) (M e) p))

  tails-passed : (ts : List T) → all_so (map PT (map (λ t. t.0) ts)) ≡ true → Passed (λ (t : T). t.0) GoodTail ts
  tails-passed ts h = passed (λ (t : T). t.0) PT (λ own. own) GoodTail (λ t k. t.1 k) ts h

  -- the links of a chain of signs
  sign-links : (is_sign : Sign → Bool) → AreOperators is_sign → (ts : List G) → list_all (λ (tail : Signed). tail is_sign) (map PG (map (λ t. t.0) ts)) ≡ true → (e : Expr) → Good e
      → Agreed g has (chain (J e) (map JG (map (λ t. t.0) ts))) (nested (R e) (map RG (map (λ t. t.0) ts))) (nested (M e) (map MG (map (λ t. t.0) ts)))
  sign-links is_sign operators ts h e p =
      let own = passed (λ (t : G). t.0) PG (λ (tail : Signed). tail is_sign) GoodSign (λ t k. t.1 is_sign operators k) ts h in
      subst (λ (xs : List SignTail). Agreed g has (chain (J e) (map JG xs)) (nested (R e) (map RG xs)) (nested (M e) (map MG xs))) own.is
      (chain-agreed g has (λ (t : (s : SignTail) × GoodSign s). t.0) JG RG MG (λ t. t.1) own.ys (J e) (R e) (M e) p)

  suffix-links : (ts : List S) → all_so (map PS (map (λ t. t.0) ts)) ≡ true → (e : Expr) → Good e
      → Agreed g has (chain (J e) (map JS (map (λ t. t.0) ts))) (nested (R e) (map RS (map (λ t. t.0) ts))) (nested (M e) (map MS (map (λ t. t.0) ts)))
  suffix-links ts h e p =
      let own = passed (λ (t : S). t.0) PS (λ own. own) GoodSuffix (λ t k. t.1 k) ts h in
      subst (λ (xs : List Suffix). Agreed g has (chain (J e) (map JS xs)) (nested (R e) (map RS xs)) (nested (M e) (map MS xs))) own.is
      (chain-agreed g has (λ (t : (s : Suffix) × GoodSuffix s). t.0) JS RS MS (λ t. t.1) own.ys (J e) (R e) (M e) p)

  abbrev Whole : (Expr-F Judge JOn Guarded SetJudge JOn JOn) → (Expr-F Resolved ROn nodes.Arm Resolved ROn (Binary → ROn)) → (Expr-F Mean MOn ArmMean Mean MOn (Binary → MOn)) → Type 0
  Whole j r m = Agreed g has (judge_step around j) (resolve_step whole r) (mean_step whole functions m)

  expr-case : (y : Expr-F E S A F G T) → Claim (roll-Expr (map-Expr E S A F G T Expr Suffix ExprArm FieldSet SignTail Tail (λ e. e.0) (λ s. s.0) (λ a. a.0) (λ f. f.0) (λ s. s.0) (λ t. t.0) y))
  expr-case (Expr-F.OrElse at (l, left) (r, right)) = expr-roll (Expr-F.OrElse at l r) (λ h. or-else-agreed types coded around whole functions at (J l) (J r) (R l) (R r) (M l) (M r) (left (and-left (P l) (P r) h)) (right (and-right (P l) (P r) h)))
  expr-case (Expr-F.Or (e, first) rest) = expr-roll (Expr-F.Or e (map (λ t. t.0) rest)) (λ h.
      let own = tails-passed rest (and-right (P e) (all_so (map PT (map (λ t. t.0) rest))) h) in or-links (map (λ t. t.0) rest) own.ys own.is e (first (and-left (P e) (all_so (map PT (map (λ t. t.0) rest))) h)))
  expr-case (Expr-F.And (e, first) rest) = expr-roll (Expr-F.And e (map (λ t. t.0) rest)) (λ h.
      let own = tails-passed rest (and-right (P e) (all_so (map PT (map (λ t. t.0) rest))) h) in and-links (map (λ t. t.0) rest) own.ys own.is e (first (and-left (P e) (all_so (map PT (map (λ t. t.0) rest))) h)))
  expr-case (Expr-F.Not at (e, inner)) = expr-roll (Expr-F.Not at e) (λ h. not-agreed types coded around whole functions at (J e) (R e) (M e) (inner h))
  expr-case (Expr-F.Compare which at (l, left) (r, right)) = expr-roll (Expr-F.Compare which at l r) (λ h.
      let both = and-right (is_comparison which) (P l && P r) h in
      compare-agreed types coded around whole functions which at (J l) (J r) (R l) (R r) (M l) (M r) (and-left (is_comparison which) (P l && P r) h) (left (and-left (P l) (P r) both)) (right (and-right (P l) (P r) both)))
  expr-case (Expr-F.Sum (e, first) rest) = expr-roll (Expr-F.Sum e (map (λ t. t.0) rest)) (λ h.
      sign-links is_sum_sign sum-operator rest (and-right (P e) (list_all (λ (tail : Signed). tail is_sum_sign) (map PG (map (λ t. t.0) rest))) h) e (first (and-left (P e) (list_all (λ (tail : Signed). tail is_sum_sign) (map PG (map (λ t. t.0) rest))) h)))
  expr-case (Expr-F.Mul (e, first) rest) = expr-roll (Expr-F.Mul e (map (λ t. t.0) rest)) (λ h.
      sign-links is_mul_sign mul-operator rest (and-right (P e) (list_all (λ (tail : Signed). tail is_mul_sign) (map PG (map (λ t. t.0) rest))) h) e (first (and-left (P e) (list_all (λ (tail : Signed). tail is_mul_sign) (map PG (map (λ t. t.0) rest))) h)))
  expr-case (Expr-F.Neg at (e, inner)) = expr-roll (Expr-F.Neg at e) (λ h. neg-agreed types coded around whole functions at (J e) (R e) (M e) (inner h))
  expr-case (Expr-F.Post (e, first) suffixes) = expr-roll (Expr-F.Post e (map (λ s. s.0) suffixes)) (λ h.
      suffix-links suffixes (and-right (P e) (all_so (map PS (map (λ t. t.0) suffixes))) h) e (first (and-left (P e) (all_so (map PS (map (λ t. t.0) suffixes))) h)))
  expr-case (Expr-F.Number at value) = expr-roll (Expr-F.Number at value) (λ h. number-agreed types coded around whole functions at value h)
  expr-case (Expr-F.Truth at value) = expr-roll (Expr-F.Truth at value) (λ h. truth-agreed types coded around whole functions at value)
  expr-case (Expr-F.Elapsed at) = expr-roll (Expr-F.Elapsed at) (λ h. elapsed-agreed types coded around whole functions at)
  expr-case (Expr-F.Name id) = expr-roll (Expr-F.Name id) (λ h. name-agreed types coded around whole functions id)
  expr-case (Expr-F.Call name args) = expr-roll (Expr-F.Call name (map (λ e. e.0) args)) (λ h.
      let own = args-passed args h in
      subst (λ (xs : List Expr). Whole (Expr-F.Call name (map J xs)) (Expr-F.Call name (map R xs)) (Expr-F.Call name (map M xs))) own.is
      (call-agreed types coded around whole functions (λ (e : DE). e.0) J R M (λ e. e.1) within serve calls name own.ys))
  expr-case (Expr-F.Variant owner variant) = expr-roll (Expr-F.Variant owner variant) (λ h. variant-agreed types coded around whole functions within owner variant)
  expr-case (Expr-F.New at owner sets) = expr-roll (Expr-F.New at owner (map (λ f. f.0) sets)) (λ h.
      let own = passed (λ (f : F). f.0) PF (λ own. own) GoodSet (λ f k. f.1 k) sets h in
      subst (λ (xs : List FieldSet). Whole (Expr-F.New at owner (map JF xs)) (Expr-F.New at owner (map RF xs)) (Expr-F.New at owner (map MF xs))) own.is
      (new-agreed types coded around whole functions (λ (f : (e : FieldSet) × GoodSet e). f.0) JF RF MF (λ f. f.1) within at owner own.ys))
  expr-case (Expr-F.NoneOf at own) = expr-roll (Expr-F.NoneOf at own) (λ h. none-agreed types coded around whole functions within at own)
  expr-case (Expr-F.EmptyOf at own) = expr-roll (Expr-F.EmptyOf at own) (λ h. empty-agreed types coded around whole functions within at own)
  expr-case (Expr-F.Builtin which at args) = expr-roll (Expr-F.Builtin which at (map (λ e. e.0) args)) (λ h.
      let own = args-passed args (and-right (is_builtin which) (all_so (map P (map (λ e. e.0) args))) h) in
      subst (λ (xs : List Expr). Whole (Expr-F.Builtin which at (map J xs)) (Expr-F.Builtin which at (map R xs)) (Expr-F.Builtin which at (map M xs))) own.is
      (builtin-agreed types coded around (λ (e : DE). e.0) J R M (λ e. e.1) whole functions at which own.ys (and-left (is_builtin which) (all_so (map P (map (λ e. e.0) args))) h)))
  expr-case (Expr-F.Paren at (e, inner)) = expr-roll (Expr-F.Paren at e) inner
  expr-case (Expr-F.List at items) = expr-roll (Expr-F.List at (map (λ e. e.0) items)) (λ h.
      let own = args-passed items h in
      subst (λ (xs : List Expr). Whole (Expr-F.List at (map J xs)) (Expr-F.List at (map R xs)) (Expr-F.List at (map M xs))) own.is
      (list-agreed types coded around whole functions (λ (e : DE). e.0) J R M (λ e. e.1) at own.ys))
  expr-case (Expr-F.Each at name (l, list) None (v, value)) = expr-roll (Expr-F.Each at name l None v) (λ h.
      let h1 = and-right (is_plain name) (P l && (true && P v)) h in
      let h2 = and-right (P l) (true && P v) h1 in
      each-agreed types coded around whole functions at name (J l) None (J v) (R l) None (R v) (M l) None (M v) (and-left (is_plain name) (P l && (true && P v)) h)
      (list (and-left (P l) (true && P v) h1)) (no-cond g has) (value (and-right true (P v) h2)))
  expr-case (Expr-F.Each at name (l, list) (Some (c, cond)) (v, value)) = expr-roll (Expr-F.Each at name l (Some c) v) (λ h.
      let h1 = and-right (is_plain name) (P l && (P c && P v)) h in
      let h2 = and-right (P l) (P c && P v) h1 in
      each-agreed types coded around whole functions at name (J l) (Some (J c)) (J v) (R l) (Some (R c)) (R v) (M l) (Some (M c)) (M v) (and-left (is_plain name) (P l && (P c && P v)) h)
      (list (and-left (P l) (P c && P v) h1)) (one-cond g has (J c) (R c) (M c) (cond (and-left (P c) (P v) h2))) (value (and-right (P c) (P v) h2)))
  expr-case (Expr-F.If at arms (o, other)) = expr-roll (Expr-F.If at (map (λ a. a.0) arms) o) (λ h.
      let list : List ExprArm = map (λ a. a.0) arms in
      let some : has_first (map PA list) ≡ true = and-left (has_first (map PA list)) (all_so (map PA list) && P o) h in
      let h1 = and-right (has_first (map PA list)) (all_so (map PA list) && P o) h in
      let own = passed (λ (a : A). a.0) PA (λ own. own) GoodArm (λ a k. a.1 k) arms (and-left (all_so (map PA list)) (P o) h1) in
      subst (λ (xs : List ExprArm). Whole (Expr-F.If at (map JA xs) (J o)) (Expr-F.If at (map RA xs) (R o)) (Expr-F.If at (map MA xs) (M o))) own.is
      (if-agreed types coded around whole functions (λ (a : (b : ExprArm) × GoodArm b). a.0) JA RA MA (λ a. a.1) at own.ys (J o) (R o) (M o)
      (first-kept PA JA list (map (λ (a : (b : ExprArm) × GoodArm b). a.0) own.ys) own.is some) (other (and-right (all_so (map PA list)) (P o) h1))))

  suffix-case : (y : Suffix-F E S A F G T) → SuffixClaim (roll-Suffix (map-Suffix E S A F G T Expr Suffix ExprArm FieldSet SignTail Tail (λ e. e.0) (λ s. s.0) (λ a. a.0) (λ f. f.0) (λ s. s.0) (λ t. t.0) y))
  suffix-case (Suffix-F.Field at name) = suffix-roll (Suffix-F.Field at name) (λ h. field-agreed types coded around whole within at name)
  suffix-case (Suffix-F.Index at (e, value)) = suffix-roll (Suffix-F.Index at e) (λ h. index-agreed types coded around whole at (J e) (R e) (M e) (value h))
  suffix-case (Suffix-F.Unwrap at) = suffix-roll (Suffix-F.Unwrap at) (λ h. unwrap-agreed types coded around whole at)

  arm-case : (y : ExprArm-F E S A F G T) → ArmClaim (roll-ExprArm (map-ExprArm E S A F G T Expr Suffix ExprArm FieldSet SignTail Tail (λ e. e.0) (λ s. s.0) (λ a. a.0) (λ f. f.0) (λ s. s.0) (λ t. t.0) y))
  arm-case y = arm-roll (record { cond = y.cond.0; value = y.value.0 }) (λ h.
      arm-agreed g has (J y.cond.0) (J y.value.0) (R y.cond.0) (R y.value.0) (M y.cond.0) (M y.value.0) (y.cond.1 (and-left (P y.cond.0) (P y.value.0) h)) (y.value.1 (and-right (P y.cond.0) (P y.value.0) h)))

  set-case : (y : FieldSet-F E S A F G T) → SetClaim (roll-FieldSet (map-FieldSet E S A F G T Expr Suffix ExprArm FieldSet SignTail Tail (λ e. e.0) (λ s. s.0) (λ a. a.0) (λ f. f.0) (λ s. s.0) (λ t. t.0) y))
  set-case y = set-roll (record { name = y.name; value = y.value.0 }) (λ h. y.value.1 h)

  sign-case : (y : SignTail-F E S A F G T) → SignClaim (roll-SignTail (map-SignTail E S A F G T Expr Suffix ExprArm FieldSet SignTail Tail (λ e. e.0) (λ s. s.0) (λ a. a.0) (λ f. f.0) (λ s. s.0) (λ t. t.0) y))
  sign-case y = sign-roll (record { sign = y.sign; at = y.at; value = y.value.0 }) (λ is_sign operators h.
      sign-agreed types coded around whole y.sign y.at (J y.value.0) (R y.value.0) (M y.value.0) (operators y.sign (and-left (is_sign y.sign) (P y.value.0) h)) (y.value.1 (and-right (is_sign y.sign) (P y.value.0) h)))

  tail-case : (y : Tail-F E S A F G T) → TailClaim (roll-Tail (map-Tail E S A F G T Expr Suffix ExprArm FieldSet SignTail Tail (λ e. e.0) (λ s. s.0) (λ a. a.0) (λ f. f.0) (λ s. s.0) (λ t. t.0) y))
  tail-case y = tail-roll (record { at = y.at; value = y.value.0 }) (λ h.
      (or-agreed types coded around whole y.at (J y.value.0) (R y.value.0) (M y.value.0) (y.value.1 h), and-agreed types coded around whole y.at (J y.value.0) (R y.value.0) (M y.value.0) (y.value.1 h)))

  pub expr-agreed : (e : Expr) → P e ≡ true → Agreed g has (J e) (R e) (M e)
  expr-agreed = ind-Expr Claim SuffixClaim ArmClaim SetClaim SignClaim TailClaim
      (λ x y is. subst (λ (z : Expr-F Expr Suffix ExprArm FieldSet SignTail Tail). Claim (roll-Expr z)) is (expr-case y))
      (λ x y is. subst (λ (z : Suffix-F Expr Suffix ExprArm FieldSet SignTail Tail). SuffixClaim (roll-Suffix z)) is (suffix-case y))
      (λ x y is. subst (λ (z : ExprArm-F Expr Suffix ExprArm FieldSet SignTail Tail). ArmClaim (roll-ExprArm z)) is (arm-case y))
      (λ x y is. subst (λ (z : FieldSet-F Expr Suffix ExprArm FieldSet SignTail Tail). SetClaim (roll-FieldSet z)) is (set-case y))
      (λ x y is. subst (λ (z : SignTail-F Expr Suffix ExprArm FieldSet SignTail Tail). SignClaim (roll-SignTail z)) is (sign-case y))
      (λ x y is. subst (λ (z : Tail-F Expr Suffix ExprArm FieldSet SignTail Tail). TailClaim (roll-Tail z)) is (tail-case y))
