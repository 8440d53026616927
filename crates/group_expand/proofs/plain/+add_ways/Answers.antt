use Rattle.std.proofs.Common.{◌≡◌, ◌<◌, ◌+◌, ◌-◌, ◌++◌, ◌∷◌, [], ℕ, List, true, false, drop, get_or, length, append_assoc, sym, ◌∙◌, ap, subst, refl, arith}
use Rattle.std.specs.Prelude.{All}
use Rattle.std.proofs.lemmas.List.{append-nil}
use Rattle.std.specs.List.{flat_map}
use Rattle.org_directory.specs.Register.{among, key_at, key_or_none, keys_at}
use Rattle.group_expand.specs.Routes.{shut_by, web_of}
use Rattle.group_expand.specs.Ways.{Web, here, ways}
use Rattle.group_expand.specs.declared.way.Way.{Way}
use Rattle.group_expand.proofs.Listing.{goes-on-from, member-first, no-room, passed-by}
use Rattle.group_expand.proofs.plain.+add_ways.Goals as goal

pub returns-then-room-eq0 : goal.returns-then-room-eq0
returns-then-room-eq0 t c =
    let web : Web = web_of c.args.directory.now (shut_by c.args.directory.now c.args.table.now) in
    sym (ap (λ ws. c.args.found.now ++ ws) (no-room web c.args.room c.args.passed.now c.args.key.now c.if-room-eq0.true) ∙ append-nil c.args.found.now)

pub returns-then-has_key : goal.returns-then-has_key
returns-then-has_key t c =
    let web : Web = web_of c.args.directory.now (shut_by c.args.directory.now c.args.table.now) in
    let on : among c.args.key.now c.args.passed.now ≡ true
    = ap (λ k. among k c.args.passed.now) (sym c.bytes.ensures.value) ∙ (sym c.has_key.ensures ∙ c.if-has_key.true) in
    sym (ap (λ ws. c.args.found.now ++ ws) (passed-by web c.args.room c.args.passed.now c.args.key.now on) ∙ append-nil c.args.found.now)

pub loop-member-init : goal.loop-member-init
loop-member-init t c =
    let web : Web = web_of c.args.directory.now (shut_by c.args.directory.now c.args.table.now) in
    let off : among c.args.key.now c.args.passed.now ≡ false
    = ap (λ k. among k c.args.passed.now) (sym c.bytes.ensures.value) ∙ (sym c.has_key.ensures ∙ c.if-has_key.false) in
    let behind : c.as_slice-behind.result.now ≡ c.args.passed.now ++ c.args.key.now ∷ [] = c.as_slice-behind.ensures ∙ c.in_ok-more.ensures in
    let all : here c.may_end.result c.args.passed.now c.args.key.now ++ flat_map (ways web (c.args.room - 1) c.as_slice-behind.result.now) (keys_at c.args.directory.now c.as_slice-member-items.result.now)
    ≡ ways web c.args.room c.args.passed.now c.args.key.now
    = ap (λ b. here b c.args.passed.now c.args.key.now ++ flat_map (ways web (c.args.room - 1) c.as_slice-behind.result.now) (keys_at c.args.directory.now c.as_slice-member-items.result.now)) c.may_end.ensures
    ∙ (ap (λ ks. here (web.is_end c.args.key.now) c.args.passed.now c.args.key.now ++ flat_map (ways web (c.args.room - 1) c.as_slice-behind.result.now) ks) (ap (keys_at c.args.directory.now) c.as_slice-member-items.ensures ∙ c.in_ok-members.ensures.keys)
    ∙ (ap (λ r. here (web.is_end c.args.key.now) c.args.passed.now c.args.key.now ++ flat_map (ways web (c.args.room - 1) r) (web.next c.args.key.now)) behind
    ∙ goes-on-from web c.args.room c.args.passed.now c.args.key.now c.if-room-eq0.false off)) in (
      subst (λ ps. All (λ p. p < length c.args.directory.now.objects) ps) (sym c.as_slice-member-items.ensures) c.in_ok-members.ensures.range,
      ap (λ f. f ++ flat_map (ways web (c.args.room - 1) c.as_slice-behind.result.now) (keys_at c.args.directory.now c.as_slice-member-items.result.now)) c.in_ok-add_here.ensures
          ∙ (append_assoc c.args.found.now (here c.may_end.result c.args.passed.now c.args.key.now) (flat_map (ways web (c.args.room - 1) c.as_slice-behind.result.now) (keys_at c.args.directory.now c.as_slice-member-items.result.now))
          ∙ ap (λ ws. c.args.found.now ++ ws) all),
    )

pub loop-member-preserved : goal.loop-member-preserved
loop-member-preserved t c =
    let web : Web = web_of c.args.directory.now (shut_by c.args.directory.now c.args.table.now) in
    let from : List ℕ → List Way = ways web (c.args.room - 1) c.as_slice-behind.result.now in
    let place : ℕ = get_or c.as_slice-member-items.result.now c.loop-member.member-index 0 in
    let later : List Way = flat_map from (keys_at c.args.directory.now (drop (c.loop-member.member-index + 1) c.as_slice-member-items.result.now)) in
    let below : c.loop-member.member-index < length c.as_slice-member-items.result.now = omega arith in
    let key : key_at c.args.directory.now place ≡ c.object.result.now.key = ap key_or_none c.object.ensures in
    let added : c.add_ways.new.found ≡ c.loop-member.found ++ from c.object.result.now.key = c.in_ok-add_ways.ensures in (
      c.loop-member.invariant.0,
      ap (λ f. f ++ later) added
          ∙ (append_assoc c.loop-member.found (from c.object.result.now.key) later
          ∙ (ap (λ k. c.loop-member.found ++ (from k ++ later)) (sym key)
          ∙ (ap (λ ws. c.loop-member.found ++ ws) (sym (member-first c.args.directory.now c.as_slice-member-items.result.now c.loop-member.member-index place from refl below))
          ∙ c.loop-member.invariant.1))),
    )
