use Rattle.dsde_program.proofs.whole.whole_by.Goals as goal

pub returns : goal.returns
returns c = record {
  types = c.in_ok-declared.ensures.types;
  infos = c.in_ok-declared.ensures.infos;
  models = c.in_ok-declared.ensures.models;
  tables = c.in_ok-laid.ensures.tables;
  functions = c.in_ok-laid.ensures.functions;
  codes = c.in_ok-laid.ensures.codes;
  makes = c.in_ok-laid.ensures.makes;
  top_model = c.in_ok-laid.ensures.top_model;
  top_args = c.in_ok-laid.ensures.top_args;
  many_codes = c.in_ok-laid.ensures.many_codes;
  many_makes = c.in_ok-laid.ensures.many_makes;
}
