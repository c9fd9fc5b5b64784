use Rattle.dip_desk.proofs.views.MasterView.desk.Goals as goal

pub returns-clause-looks : goal.returns-clause-looks
returns-clause-looks g c = c.desk.ensures c.args.self.now.map.now
