use Rattle.std.proofs.Common.{◌≡◌, Some, None, sym, ◌∙◌, subst, arith}
use Rattle.wk_door.specs.Told.{IsAccepted}
use Rattle.wk_door.specs.declared.entrance.Shut.TheVariants.{Broken, Empty}
use Rattle.wk_door.proofs.Giving.{empty-now, empty-same, given-one, left-one}
use Rattle.wk_door.proofs.entrance.Entrance.next_link.Goals as goal

pub overflow_add-self : goal.overflow_add-self
overflow_add-self g c = omega (arith, (c.is_over.ensures.goes_on c.if-is_over.false).1)

-- a link came
pub invariant_of-self : goal.invariant_of-self
invariant_of-self g c =
    let entrance = c.args.self.now in
    let before = g.D.Door.told entrance.door.now in
    let later = g.D.Door.told c.accept.new.self in
    let going = c.is_over.ensures.goes_on c.if-is_over.false in
    let accepted = subst (IsAccepted before later) c.in-Ok-Some.field-0-is c.in-Ok-Some.ensures.given in record {
      same = entrance.same;
      most_is = entrance.most_is;
      within = let most = entrance.most_is in let room = going.1 in omega (arith, most, room);
      given = given-one g.E.Entry.told before later c.in-Ok-Some.link entrance.taken entrance.given accepted;
      left = left-one g.E.Entry.told before later c.in-Ok-Some.link entrance.taken entrance.given accepted entrance.left;
      never_falls = let before_is = entrance.never_falls in let accept_is = c.accept.ensures.never_falls in omega (arith, before_is, accept_is);
      going = λ shut. c.in-Ok-Some.ensures.no_fault ∙ entrance.going shut;
      emptied = λ shut. absurd (let e : None ≡ Some Empty = sym going.0 ∙ shut in cc);
      broken = λ shut. absurd (let e : None ≡ Some Broken = sym going.0 ∙ shut in cc);
    }

-- none is left
pub invariant_of-self-in-Ok-None : goal.invariant_of-self-in-Ok-None
invariant_of-self-in-Ok-None g c =
    let entrance = c.args.self.now in
    let before = g.D.Door.told entrance.door.now in
    let later = g.D.Door.told c.accept.new.self in
    let going = c.is_over.ensures.goes_on c.if-is_over.false in
    let accepted = subst (IsAccepted before later) c.in-Ok-None.field-0-is c.in-Ok-None.ensures.given in record {
      same = entrance.same;
      most_is = entrance.most_is;
      within = entrance.within;
      given = empty-same before later accepted ∙ entrance.given;
      left = entrance.left;
      never_falls = let before_is = entrance.never_falls in let accept_is = c.accept.ensures.never_falls in omega (arith, before_is, accept_is);
      going = λ shut. absurd (let e : Some Empty ≡ None = shut in cc);
      emptied = λ shut. (c.in-Ok-None.ensures.no_fault ∙ entrance.going going.0, empty-now before later accepted);
      broken = λ shut. absurd (let e : Some Empty ≡ Some Broken = shut in cc);
    }
