use Rattle.ms_line.specs.declared.shape.Shape.TheVariants.{Empty, Close, Kept, Group, GlobalVar, Label, Declare, Define, Inst, Term}
use Rattle.ms_line.proofs.SaidLemmas.{found_told}
use Rattle.ms_line.proofs.said.said_by_tokens.Goals as goal

pub returns-in-Empty : goal.returns-in-Empty
returns-in-Empty c = found_told c.args.line.now c.args.tokens.now Empty c.empty.result c.in-Empty.ensures c.empty.ensures

pub returns-in-Close : goal.returns-in-Close
returns-in-Close c = found_told c.args.line.now c.args.tokens.now Close c.close.result c.in-Close.ensures c.close.ensures

pub returns-in_ok-kept_text_line-in-Kept : goal.returns-in_ok-kept_text_line-in-Kept
returns-in_ok-kept_text_line-in-Kept c = found_told c.args.line.now c.args.tokens.now Kept c.in_ok-kept_text_line-in-Kept.field-0 c.in-Kept.ensures c.in_ok-kept_text_line-in-Kept.ensures

pub returns-in_ok-group-in-Group : goal.returns-in_ok-group-in-Group
returns-in_ok-group-in-Group c = found_told c.args.line.now c.args.tokens.now Group c.in_ok-group-in-Group.field-0 c.in-Group.ensures c.in_ok-group-in-Group.ensures

pub returns-in_ok-global_var-in-GlobalVar : goal.returns-in_ok-global_var-in-GlobalVar
returns-in_ok-global_var-in-GlobalVar c = found_told c.args.line.now c.args.tokens.now GlobalVar c.in_ok-global_var-in-GlobalVar.field-0 c.in-GlobalVar.ensures c.in_ok-global_var-in-GlobalVar.ensures

pub returns-in_ok-label-in-Label : goal.returns-in_ok-label-in-Label
returns-in_ok-label-in-Label c = found_told c.args.line.now c.args.tokens.now Label c.in_ok-label-in-Label.field-0 c.in-Label.ensures c.in_ok-label-in-Label.ensures

pub returns-in_ok-declare-in-Declare : goal.returns-in_ok-declare-in-Declare
returns-in_ok-declare-in-Declare c = found_told c.args.line.now c.args.tokens.now Declare c.in_ok-declare-in-Declare.field-0 c.in-Declare.ensures c.in_ok-declare-in-Declare.ensures

pub returns-in_ok-define-in-Define : goal.returns-in_ok-define-in-Define
returns-in_ok-define-in-Define c = found_told c.args.line.now c.args.tokens.now Define c.in_ok-define-in-Define.field-0 c.in-Define.ensures c.in_ok-define-in-Define.ensures

pub returns-in_ok-inst-in-Inst : goal.returns-in_ok-inst-in-Inst
returns-in_ok-inst-in-Inst c = found_told c.args.line.now c.args.tokens.now Inst c.in_ok-inst-in-Inst.field-0 c.in-Inst.ensures c.in_ok-inst-in-Inst.ensures

pub returns-in_ok-term-in-Term : goal.returns-in_ok-term-in-Term
returns-in_ok-term-in-Term c = found_told c.args.line.now c.args.tokens.now Term c.in_ok-term-in-Term.field-0 c.in-Term.ensures c.in_ok-term-in-Term.ensures
