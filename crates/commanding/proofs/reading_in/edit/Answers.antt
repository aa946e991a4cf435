use Rattle.std.proofs.Common.{◌≡◌, ℕ, ◌-◌, List, ◌++◌, length, drop, Some, Ok, Option, sym, ap, ◌∙◌, rules}
use Rattle.std.specs.Option.{option_map}
use Rattle.shelf.specs.declared.label.Label.{Label}
use Rattle.shelf.specs.Text.{text_of}
use Rattle.command.specs.declared.fault.Fault.TheVariants.{NoName}
use Rattle.command.specs.declared.said.FileName.{FileName as FileNameCode}
use Rattle.command.specs.View.{name_view}
use Rattle.rules.specs.Checks.{or_fault}
use Rattle.rules.specs.Commands.{Outcome, edited}
use Rattle.rules.specs.Effects.{name_of}
use Rattle.state.specs.Worlds.{world_of}
use Rattle.commanding.specs.Editing.{read_named}
use Rattle.commanding.proofs.Loading.{edited-named}
use Rattle.commanding.proofs.reading_in.edit.Goals as goal

pub returns-in-Given : goal.returns-in-Given
returns-in-Given g c =
    let w = world_of c.args.desk.now.session.now (g.T.LineStore.meaning c.args.desk.now.text.now) (g.K.LineStore.meaning c.args.desk.now.keep.now) (g.S.Shelf.meaning c.args.shelf.now) in
    let n = name_view c.args.name in
    let f = c.in-Given.name.now in
    let sheet = c.args.sheet.now in
    let named : name_of w n ≡ Ok f = ap (λ (x : FileNameCode). name_of w (name_view x)) c.in-Given.is in
    let d : edited (length sheet - 16) w n ≡ read_named (length sheet - 16) w f = edited-named (length sheet - 16) w n f (sym c.in_ok-check_saved.ensures) named in
    record {
      value = c.edit_named.ensures.value ∙ sym (ap (λ (o : Outcome). o.fault) d);
      bytes = c.edit_named.ensures.bytes ∙ sym (ap (λ (o : Outcome). length o.out) d);
      sheet = c.edit_named.ensures.sheet ∙ sym (ap (λ (o : Outcome). o.out ++ drop (length o.out) sheet) d);
      world = c.edit_named.ensures.world ∙ sym (ap (λ (o : Outcome). o.world) d);
      text = c.edit_named.ensures.text;
      keep = c.edit_named.ensures.keep;
      lent_session = c.edit_named.ensures.lent_session;
      lent_text = c.edit_named.ensures.lent_text;
      lent_keep = c.edit_named.ensures.lent_keep;
    }

pub returns-in_ok-label-in-Remembered : goal.returns-in_ok-label-in-Remembered
returns-in_ok-label-in-Remembered g c =
    let w = world_of c.args.desk.now.session.now (g.T.LineStore.meaning c.args.desk.now.text.now) (g.K.LineStore.meaning c.args.desk.now.keep.now) (g.S.Shelf.meaning c.args.shelf.now) in
    let n = name_view c.args.name in
    let f = c.text.result.now in
    let sheet = c.args.sheet.now in
    let known : c.args.desk.now.session.now.name ≡ Some c.in_ok-label-in-Remembered.label = search rules in
    let named : name_of w n ≡ Ok f =
    ap (λ (x : FileNameCode). name_of w (name_view x)) c.in-Remembered.is
    ∙ ap (λ (o : Option Label). or_fault NoName (option_map text_of o)) known
    ∙ ap (λ (b : List ℕ). Ok b) (sym c.text.ensures) in
    let d : edited (length sheet - 16) w n ≡ read_named (length sheet - 16) w f = edited-named (length sheet - 16) w n f (sym c.in_ok-check_saved.ensures) named in
    record {
      value = c.edit_named-in-Remembered.ensures.value ∙ sym (ap (λ (o : Outcome). o.fault) d);
      bytes = c.edit_named-in-Remembered.ensures.bytes ∙ sym (ap (λ (o : Outcome). length o.out) d);
      sheet = c.edit_named-in-Remembered.ensures.sheet ∙ sym (ap (λ (o : Outcome). o.out ++ drop (length o.out) sheet) d);
      world = c.edit_named-in-Remembered.ensures.world ∙ sym (ap (λ (o : Outcome). o.world) d);
      text = c.edit_named-in-Remembered.ensures.text;
      keep = c.edit_named-in-Remembered.ensures.keep;
      lent_session = c.edit_named-in-Remembered.ensures.lent_session;
      lent_text = c.edit_named-in-Remembered.ensures.lent_text;
      lent_keep = c.edit_named-in-Remembered.ensures.lent_keep;
    }
