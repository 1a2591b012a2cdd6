mod SetLaws
